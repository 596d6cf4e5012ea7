use Rattle.std.proofs.Common.{◌≡◌, ◌++◌, ℕ, List, drop, map}
use Rattle.std.specs.List.{position}
use Rattle.std.specs.Str.{bytes_eq}
use Rattle.chart_links.proofs.faults.numbers_of.Given as goal

abbrev pub invariant-loop-name : goal.invariant-loop-name
invariant-loop-name l =
    l.numbers.items ++ map (λ (n : List ℕ). position (bytes_eq n) l.known) (drop l.name-index l.names) ≡ map (λ (n : List ℕ). position (bytes_eq n) l.known) l.names
