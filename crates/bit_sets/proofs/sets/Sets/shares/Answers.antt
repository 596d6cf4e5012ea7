use Rattle.std.proofs.Common.{subst, sym, ◌∙◌, ap₂, not, true, ap, ◌≡◌, List, ℕ, Bool, ◌∷◌}
use Rattle.std.specs.Int.Bits.{and_lt, bit_and}
use Rattle.std.proofs.lemmas.Bool.{ne_eqb}
use Rattle.bit_sets.specs.Blocks.{ShareBit}
use Rattle.bit_sets.specs.Stores.{first_of, rest_of}
use Rattle.bit_sets.proofs.FirstWords.{share_here, share_behind}
use Rattle.bit_sets.proofs.sets.Sets.shares.Goals as goal

-- the same with other names for the first words
moved : (a b v w : ℕ) (vs ws : List ℕ) (s t : Bool) → a ≡ v → b ≡ w → t ≡ s → ShareBit (a ∷ vs) (b ∷ ws) t → ShareBit (v ∷ vs) (w ∷ ws) s
moved a b v w vs ws s t p q r h = subst (λ (x : ℕ). ShareBit (x ∷ vs) (w ∷ ws) s) p (subst (λ (x : ℕ). ShareBit (a ∷ vs) (x ∷ ws) s) q (subst (ShareBit (a ∷ vs) (b ∷ ws)) r h))

pub returns-then-first-ne0 : goal.returns-then-first-ne0
returns-then-first-ne0 c =
    moved c.first.result c.first-2.result (first_of c.args.self.now) (first_of c.args.other.now) (rest_of c.args.self.now) (rest_of c.args.other.now) _ true c.first.ensures c.first-2.ensures
    (sym (ap not (ne_eqb (bit_and c.first.result c.first-2.result) 0 c.if-first-ne0.true)))
    (share_here c.first.result c.first-2.result (rest_of c.args.self.now) (rest_of c.args.other.now) (and_lt 64 c.first.result c.first-2.result c.first.type_inv c.first-2.type_inv) c.if-first-ne0.true)

pub returns-else-first-ne0 : goal.returns-else-first-ne0
returns-else-first-ne0 c =
    share_behind (first_of c.args.self.now) (first_of c.args.other.now) (rest_of c.args.self.now) (rest_of c.args.other.now) c.share_bit.result
    (sym (ap₂ bit_and c.first.ensures c.first-2.ensures) ∙ c.if-first-ne0.false)
    (subst (λ l. ShareBit l (rest_of c.args.other.now) c.share_bit.result) c.rest.ensures (subst (λ l. ShareBit c.rest.result.now l c.share_bit.result) c.rest-else-first-ne0.ensures c.share_bit.ensures))
