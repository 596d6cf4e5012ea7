use Rattle.std.proofs.Common.{arith, Some, None, ◌≡◌, ◌<◌, subst, List, ℕ, Option, ◌∷◌, ap, ap₂, sym, ◌∙◌, ◌-◌}
use Rattle.std.specs.Int.Bits.{bit_xor}
use Rattle.std.specs.Int.{trailing_zeros, w64}
use Rattle.std.proofs.lemmas.Nat.{xor_lt}
use Rattle.msc_base.specs.declared.limits.TheConstants.Limits.{INSTANCES}
use Rattle.bit_sets.specs.Blocks.{IsFirstDifference}
use Rattle.bit_sets.specs.Stores.{first_of, rest_of}
use Rattle.bit_sets.proofs.FirstWords.{differ_here, differ_behind, differ_nowhere, differ_below}
use Rattle.bit_sets.proofs.sets.Sets.difference.Goals as goal

moved : (u v w x : List ℕ) (a b : Option ℕ) → u ≡ w → v ≡ x → a ≡ b → IsFirstDifference u v a → IsFirstDifference w x b
moved u v w x a b p q r d = subst (λ l. IsFirstDifference l x b) p (subst (λ l. IsFirstDifference u l b) q (subst (λ o. IsFirstDifference u v o) r d))

pub returns-then-different-ne0 : goal.returns-then-different-ne0
returns-then-different-ne0 c =
    moved (c.first.result ∷ rest_of c.args.self.now) (c.first-2.result ∷ rest_of c.args.other.now) ((first_of c.args.self.now) ∷ rest_of c.args.self.now) ((first_of c.args.other.now) ∷ rest_of c.args.other.now)
    (Some (trailing_zeros w64 (bit_xor c.first.result c.first-2.result))) (Some (trailing_zeros w64 (bit_xor c.first.result c.first-2.result)))
    (ap (λ w. w ∷ rest_of c.args.self.now) c.first.ensures) (ap (λ w. w ∷ rest_of c.args.other.now) c.first-2.ensures) (λ i. Some (trailing_zeros w64 (bit_xor c.first.result c.first-2.result)))
    (differ_here c.first.result c.first-2.result (rest_of c.args.self.now) (rest_of c.args.other.now) (xor_lt 64 c.first.result c.first-2.result c.first.type_inv c.first-2.type_inv) c.if-different-ne0.true)

pub overflow_add-result : goal.overflow_add-result
overflow_add-result c =
    let below : c.in-Some.at < INSTANCES - 64 =
    differ_below (rest_of c.args.self.now) (rest_of c.args.other.now) c.in-Some.at (INSTANCES - 64) (omega (arith, c.requires.few)) (omega (arith, c.requires.others_few))
    (moved c.rest.result.now c.rest-2.result.now (rest_of c.args.self.now) (rest_of c.args.other.now) c.first_difference.result (Some c.in-Some.at) c.rest.ensures c.rest-2.ensures c.in-Some.is c.first_difference.ensures) in
    omega arith

pub returns-in-Some : goal.returns-in-Some
returns-in-Some c =
    differ_behind (first_of c.args.self.now) (first_of c.args.other.now) (rest_of c.args.self.now) (rest_of c.args.other.now) c.in-Some.at
    (sym (ap₂ bit_xor c.first.ensures c.first-2.ensures) ∙ c.if-different-ne0.false)
    (moved c.rest.result.now c.rest-2.result.now (rest_of c.args.self.now) (rest_of c.args.other.now) c.first_difference.result (Some c.in-Some.at) c.rest.ensures c.rest-2.ensures c.in-Some.is c.first_difference.ensures)

pub returns-in-None : goal.returns-in-None
returns-in-None c =
    differ_nowhere (first_of c.args.self.now) (first_of c.args.other.now) (rest_of c.args.self.now) (rest_of c.args.other.now)
    (sym (ap₂ bit_xor c.first.ensures c.first-2.ensures) ∙ c.if-different-ne0.false)
    (moved c.rest.result.now c.rest-2.result.now (rest_of c.args.self.now) (rest_of c.args.other.now) c.first_difference.result None c.rest.ensures c.rest-2.ensures c.in-None.is c.first_difference.ensures)
