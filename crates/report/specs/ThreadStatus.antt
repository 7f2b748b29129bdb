-- The statuses of threads, as they are held in memory.
use Rattle.report.specs.declared.thread_status.ThreadStatus.{ThreadStatus}
use Rattle.report.specs.declared.thread_status.ThreadStatus.TheVariants.{Trapped, Ended, Uncaught, Blocked, Running}
use Rattle.semantics.specs.Report.{ThreadStanding, HasTrapped, HasEnded, IsUncaught, IsBlocked, IsRunning}

-- what a status in memory says
abbrev pub standing_view : ThreadStatus → ThreadStanding
standing_view (Trapped number line) = HasTrapped number line
standing_view Ended = HasEnded
standing_view (Uncaught class) = IsUncaught class.now
standing_view Blocked = IsBlocked
standing_view Running = IsRunning
