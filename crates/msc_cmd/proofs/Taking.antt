-- Taking a document piece by piece.
use Rattle.std.proofs.Common.{◌≡◌, ◌<◌, ◌≤◌, ◌+◌, ◌-◌, inl, inr, ℕ, List, [], ◌∷◌, ◌++◌, length, min, take, arith, sym, refl, ap, ◌∙◌, zero, suc, Option, Some, None, append-nil, length-append}
use Rattle.std.proofs.lemmas.List.{take_all, take_min}
use Rattle.outside.specs.Shelves.{Files}
use Rattle.msc_base.specs.declared.limits.TheConstants.Limits.{DOCUMENT_BYTES}
use Rattle.msc_cmd.specs.Intakes.{HasTaken, IsReading, HoldsDocument}
use Rattle.msc_cmd.specs.declared.intake.Intake.{Intake}

take_over : (most : ℕ) (bytes piece : List ℕ) → length bytes ≤ most → take most (bytes ++ piece) ≡ bytes ++ take (most - length bytes) piece
take_over most [] piece short = ap (λ (n : ℕ). take n piece) (omega arith)
take_over zero (b ∷ bytes) piece short = absurd (omega arith)
take_over (suc most) (b ∷ bytes) piece short =
    let n : most - length bytes ≡ suc most - length (b ∷ bytes) = omega arith in
    ap (λ (bs : List ℕ). b ∷ bs) (take_over most bytes piece (omega arith) ∙ ap (λ (k : ℕ). bytes ++ take k piece) n)

-- one more piece has been taken
pub taken_more : (bytes piece prefix : List ℕ) (old new : Intake) → old.count ≤ DOCUMENT_BYTES → prefix ≡ take (min (DOCUMENT_BYTES - old.count) (length piece)) piece
    → new.text.items ≡ old.text.items ++ prefix → new.count ≡ old.count + length piece → HasTaken bytes old → HasTaken (bytes ++ piece) new
taken_more bytes piece prefix old new room is grows counts h =
    let short : length bytes ≤ DOCUMENT_BYTES = omega (arith, h.counted) in
    let whole : take DOCUMENT_BYTES bytes ≡ bytes = take_all DOCUMENT_BYTES bytes short in
    let cut : prefix ≡ take (DOCUMENT_BYTES - length bytes) piece = is ∙ take_min (DOCUMENT_BYTES - old.count) piece ∙ ap (λ (n : ℕ). take (DOCUMENT_BYTES - n) piece) h.counted in
    let all : take DOCUMENT_BYTES (bytes ++ piece) ≡ take DOCUMENT_BYTES bytes ++ prefix = take_over DOCUMENT_BYTES bytes piece short ∙ ap (λ (bs : List ℕ). bytes ++ bs) (sym cut) ∙ ap (λ (bs : List ℕ). bs ++ prefix) (sym whole) in
    record {
      counted = omega (arith, counts, h.counted, length-append bytes piece);
      held = grows ∙ ap (λ (bs : List ℕ). bs ++ prefix) h.held ∙ sym all;
    }

-- a document that was read to its end, or behind the limit
pub holds_end : (files : Option Files) (name : List ℕ) (intake : Intake) → IsReading files name (Some []) intake → HoldsDocument files name intake
holds_end None name intake r = record { bytes = r.bytes; held = tt; prefix = r.bytes; taken = r.taken; prefix_of_list = record { rest = []; are = sym (append-nil r.bytes); enough = inl refl } }
holds_end (Some f) name intake r = record { bytes = r.bytes; held = rw append-nil at r.held; prefix = r.bytes; taken = r.taken; prefix_of_list = record { rest = []; are = sym (append-nil r.bytes); enough = inl refl } }

pub holds_over : (files : Option Files) (name : List ℕ) (rest : Option (List ℕ)) (intake : Intake) → DOCUMENT_BYTES < intake.count → IsReading files name rest intake → HoldsDocument files name intake
holds_over None name rest intake over r = record { bytes = r.bytes; held = tt; prefix = r.bytes; taken = r.taken; prefix_of_list = record { rest = []; are = sym (append-nil r.bytes); enough = inl refl } }
holds_over (Some f) name None intake over r = absurd r.held
holds_over (Some f) name (Some left) intake over r = record { bytes = r.bytes ++ left; held = r.held; prefix = r.bytes; taken = r.taken; prefix_of_list = record { rest = left; are = refl; enough = inr (omega (arith, over, r.taken.counted)) } }
