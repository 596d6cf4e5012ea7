-- Serves private contracts alone.
use Rattle.std.specs.Borrow.{Bor}
use Rattle.std.specs.Prelude.{ℕ, List, map}

-- the names where they stand
abbrev pub names_view : List (Bor (List ℕ)) → List (List ℕ)
names_view ns = map (λ (n : Bor (List ℕ)). n.now) ns
