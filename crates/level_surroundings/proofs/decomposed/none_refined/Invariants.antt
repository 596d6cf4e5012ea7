use Rattle.std.proofs.Common.{◌≡◌, ℕ, List, drop}
use Rattle.msc_meaning.specs.Tables.{refined_as}
use Rattle.level_surroundings.proofs.decomposed.none_refined.Given as goal

abbrev pub invariant-loop-decl : goal.invariant-loop-decl
invariant-loop-decl l = (name : List ℕ) → refined_as l.decls name ≡ refined_as (drop l.decl-index l.decls) name
