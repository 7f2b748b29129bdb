use Rattle.std.proofs.Common.{refl}
use Rattle.cli.proofs.answering.answer.Goals as goal

pub returns-in-Serve : goal.returns-in-Serve
returns-in-Serve g c = rw c.in-Serve.is c.serve_sequential.ensures

pub returns-in-WriteLog : goal.returns-in-WriteLog
returns-in-WriteLog g c = rw c.in-WriteLog.is (rw c.deref-in-WriteLog.ensures.value at c.write_log.ensures)

pub returns-in-CheckAll : goal.returns-in-CheckAll
returns-in-CheckAll g c = rw c.in-CheckAll.is (rw c.deref-in-CheckAll.ensures.value at c.list_all.ensures)

pub returns-in-Explain : goal.returns-in-Explain
returns-in-Explain g c = rw c.in-Explain.is c.explain.ensures

pub returns-in-Show : goal.returns-in-Show
returns-in-Show g c = rw c.in-Show.is (rw c.as_bytes.ensures.value at c.show.ensures)

pub returns-in-Misuse : goal.returns-in-Misuse
returns-in-Misuse g c = rw c.in-Misuse.is (refl, rw c.as_bytes-in-Misuse.ensures.value at c.decline.ensures)

pub returns-in-LacksOrder : goal.returns-in-LacksOrder
returns-in-LacksOrder g c = rw c.in-LacksOrder.is (refl, c.decline-in-LacksOrder.ensures)

pub returns-in-LacksMemory : goal.returns-in-LacksMemory
returns-in-LacksMemory g c = rw c.in-LacksMemory.is (refl, c.fail.ensures.status, c.fail.ensures.tells)
