use Rattle.std.proofs.Common.{◌≡◌, ◌∙◌, ◌∷◌, [], List, ℕ, length, ap₂, sym, subst, Result, Ok, Err, OnOk}
use Rattle.std.specs.Int.Bits.{bit_or}
use Rattle.std.proofs.lemmas.Bool.{eqb-true}
use Rattle.std.proofs.lemmas.List.{nil_from_length}
use Rattle.bit_sets.specs.Blocks.{HasBitsOfBoth}
use Rattle.bit_sets.specs.Stores.{first_of, rest_of, words_of}
use Rattle.bit_sets.proofs.FirstWords.{united_behind, united_none}
use Rattle.bit_sets.proofs.sets.Sets.unite.Goals as goal

-- the words that were put there have the bits of both
put_there : {T E : Type 0} (r : Result T E) (words others united new : List ℕ) → HasBitsOfBoth words others united → OnOk r (new ≡ united) → OnOk r (HasBitsOfBoth words others new)
put_there (Ok t) words others united new h e = subst (HasBitsOfBoth words others) (sym e) h
put_there (Err e) words others united new h k = tt

pub returns-then-is_empty-clause-ok : goal.returns-then-is_empty-clause-ok
returns-then-is_empty-clause-ok c =
    let none : rest_of c.args.other.now ≡ [] = sym c.rest-others.ensures ∙ nil_from_length c.rest-others.result.now (eqb-true (length c.rest-others.result.now) 0 (sym c.is_empty.ensures ∙ c.if-is_empty.true)) in
    let first : bit_or (first_of c.args.self.now) (first_of c.args.other.now) ≡ bit_or c.first.result c.first-2.result = sym (ap₂ bit_or c.first.ensures c.first-2.ensures) in
    let both : HasBitsOfBoth (words_of c.args.self.now) (words_of c.args.other.now) (bit_or (first_of c.args.self.now) (first_of c.args.other.now) ∷ rest_of c.args.self.now) =
    united_behind (first_of c.args.self.now) (first_of c.args.other.now) (rest_of c.args.self.now) (rest_of c.args.other.now) (rest_of c.args.self.now)
    (subst (λ (l : List ℕ). HasBitsOfBoth (rest_of c.args.self.now) l (rest_of c.args.self.now)) (sym none) (united_none (rest_of c.args.self.now))) in
    put_there c.put_first.result (words_of c.args.self.now) (words_of c.args.other.now) (bit_or c.first.result c.first-2.result ∷ rest_of c.args.self.now) (words_of c.put_first.new.self)
    (subst (λ (w : ℕ). HasBitsOfBoth (words_of c.args.self.now) (words_of c.args.other.now) (w ∷ rest_of c.args.self.now)) first both) c.put_first.ensures.ok
