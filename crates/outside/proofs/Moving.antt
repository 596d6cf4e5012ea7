-- A read over bytes in memory.
use Rattle.std.proofs.Common.{◌≡◌, ◌<◌, ◌≤◌, List, ℕ, length, take, drop, ◌++◌, [], arith}
use Rattle.std.proofs.lemmas.Grind.{common_steps}
use Rattle.std.proofs.lemmas.List.{take-append-drop, take_at, length-take-le}
use Rattle.std.proofs.lemmas.Slice.{drop-append-drop}
use Rattle.outside.specs.Shelves.{Moves}

pub moves_part : (left rest buf new : List ℕ) (n : ℕ) → new ≡ take n left ++ drop n buf → rest ≡ drop n left → n ≤ length left → n ≤ length buf → (n ≡ 0 → 0 < length buf → left ≡ []) → Moves n left rest buf new
moves_part left rest buf new n is is_rest here there end = record {
  moved = rw (is, is_rest) (grind (arith, common_steps, take-append-drop, take_at, length-take-le));
  behind = rw is (drop-append-drop n buf (take n left) n (omega arith) (length-take-le n left here));
  end = grind (arith, common_steps);
}
