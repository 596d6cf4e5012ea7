use Rattle.std.proofs.Common.{refl, ap, map}
use Rattle.event_log.specs.Memories.{LineSort}
use Rattle.event_log.proofs.Feeding.{going_first}
use Rattle.event_log.proofs.reader.LineReader.new.Goals as goal

pub returns-clause-fed : goal.returns-clause-fed
returns-clause-fed g c =
    going_first g.M.LineMeaning.rules c.args.form _ (ap (λ (m : LineSort). m.form) c.new.ensures) (ap (λ (m : LineSort). m.version) c.new.ensures) refl refl c.nothing_met.ensures
    (ap (λ es. map g.M.LineMeaning.event_of es) c.new-2.ensures.items) c.in_ok-line.ensures.items refl
