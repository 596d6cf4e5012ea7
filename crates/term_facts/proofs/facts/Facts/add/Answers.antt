use Rattle.std.proofs.Common.{refl}
use Rattle.term_facts.proofs.facts.Facts.add.Goals as goal

pub returns : goal.returns
returns c = record {
  weight = c.saturating_add-self.ensures;
  trail = refl;
  instances = c.in_ok-unite.ensures;
  span = c.widened-self.ensures.numbers;
  labels = c.widened-self.ensures.labels;
  code = refl;
}
