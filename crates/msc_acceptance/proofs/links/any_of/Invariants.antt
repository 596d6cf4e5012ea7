use Rattle.std.proofs.Common.{◌≡◌, drop}
use Rattle.std.specs.List.{list_any}
use Rattle.msc_acceptance.proofs.links.any_of.Given as goal

abbrev pub invariant-loop-one : goal.invariant-loop-one
invariant-loop-one l = list_any (λ b. b) (drop l.one-index l.list) ≡ list_any (λ b. b) l.list
