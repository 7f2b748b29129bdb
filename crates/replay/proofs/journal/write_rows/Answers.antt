use Rattle.replay.proofs.RunLemmas.{writes}
use Rattle.replay.proofs.journal.write_rows.Goals as goal

pub returns-in-Ok : goal.returns-in-Ok
returns-in-Ok g c = (
  λ unit w replayed. record {
    fits = replayed.fits;
    text = _;
    is = writes unit w c.args.journal.now c.args.state.now c.in_ok-standings.standings.items c.args.rows.now replayed c.in_ok-standings.ensures c.requires.rows;
    written = rw (c.deref.ensures.value, c.deref-2.ensures.value) at c.in-Ok.ensures.text;
  },
  c.in-Ok.ensures.none_waits,
)

pub returns : goal.returns
returns g c = (
  λ unit w replayed. record {
    fits = replayed.fits;
    text = _;
    is = writes unit w c.args.journal.now c.args.state.now c.in_ok-standings.standings.items c.args.rows.now replayed c.in_ok-standings.ensures c.requires.rows;
    stopped = rw (c.deref.ensures.value, c.deref-2.ensures.value) at c.in-Err.ensures.text;
  },
  tt,
)
