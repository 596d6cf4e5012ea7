-- Marks at an index, as loops read them.
use Rattle.std.specs.Prelude.{ℕ, zero, suc, ◌<◌, ◌≡◌, List, [], ◌∷◌, Some, None, refl, length, get_or, slice_get}
use Rattle.std.proofs.Common.{arith}
use Rattle.pattern_marks.specs.declared.mark.Mark.{Mark}
use Rattle.pattern_marks.specs.declared.mark.Mark.TheVariants as mark

-- what a loop's read gives behind the end
abbrev pub no_mark : Mark
no_mark = mark.Event (record { number = 0; at = 0; also = None; label = 0 }) 0

pub mark_at : (ms : List Mark) (i : ℕ) (d : Mark) → i < length ms → slice_get ms i ≡ Some (get_or ms i d)
mark_at [] i d l = absurd (omega arith)
mark_at (m ∷ ms) zero d l = refl
mark_at (m ∷ ms) (suc i) d l = mark_at ms i d (omega (arith, l))
