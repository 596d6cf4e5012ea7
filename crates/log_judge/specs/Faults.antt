-- The faults of a log as those of its judge.
use Rattle.event_log.specs.declared.event.LogFault.{LogFault}
use Rattle.event_log.specs.declared.event.LogFault.TheVariants as fault
use Rattle.log_judge.specs.declared.fault.JudgeFault.{JudgeFault}
use Rattle.log_judge.specs.declared.fault.JudgeFault.TheVariants.{Log, NoMemory}

-- a fault of the log is one of the judge; want of memory is no fault of the log
abbrev pub judge_fault : LogFault → JudgeFault
judge_fault (fault.Syntax line) = Log (fault.Syntax line)
judge_fault (fault.LongLine line) = Log (fault.LongLine line)
judge_fault (fault.LogLimit line) = Log (fault.LogLimit line)
judge_fault (fault.TooManySessions line) = Log (fault.TooManySessions line)
judge_fault (fault.Version line) = Log (fault.Version line)
judge_fault fault.NoMemory = NoMemory
