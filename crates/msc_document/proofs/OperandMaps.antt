-- Readers of inline expressions, where each operand is read as another value.
use Rattle.std.proofs.Common.{ℕ, zero, suc, ◌≡◌, ◌∙◌, Bool, true, false, cond, List, [], ◌∷◌, length, map, refl, ap, Ok, Err}
use Rattle.msc_tokens.specs.declared.token.Token.{Token}
use Rattle.msc_tree.specs.declared.reference.InlineForm.{InlineForm}
use Rattle.msc_tree.specs.declared.reference.InlineForm.TheVariants.{Alt, Opt, Par, Loop, Exc}
use Rattle.token_grammar.specs.Languages.{Set, Read, starts, ◌>>=◌, each_at, until_at}
use Rattle.token_grammar.specs.PartReaders.{ending_at}
use Rattle.token_grammar.proofs.Optionals.{mapped, paired}
use Rattle.msc_document.specs.Inlines.{Naming, firsts}
use Rattle.msc_document.specs.DocumentReaders.{end_words, closing_at, next_part_at, several_at, single_operand_at, naming_at, operands_at, body_at}
use Rattle.msc_events.specs.declared.orientation.Orientation.{Orientation}

module _ {A B : Type 0} (g : A → B) where
  abbrev all : List A → List B
  all l = map g l

  -- ---- any number of them

  one_more : (a : A) (r : Read (List A)) → mapped (λ l. g a ∷ l) (mapped all r) ≡ mapped all (mapped (λ l. a ∷ l) r)
  one_more a (Ok x) = refl
  one_more a (Err e) = refl

  module _ (s : Set) (q : List Token → Read B) (p : List Token → Read A) (same : (ts : List Token) → q ts ≡ mapped g (p ts)) where
    each_step : (k : ℕ) → ((ts : List Token) → each_at s q k ts ≡ mapped all (each_at s p k ts)) → (x : Read A) → (mapped g x >>= λ b. each_at s q k b.1 >>= λ r. Ok (b.0 ∷ r.0, r.1)) ≡ mapped all (x >>= λ a. each_at s p k a.1 >>= λ r. Ok (a.0 ∷ r.0, r.1))
    each_step k again (Ok x) = ap (λ r. mapped (λ l. g x.0 ∷ l) r) (again x.1) ∙ one_more x.0 (each_at s p k x.1)
    each_step k again (Err e) = refl

    each_map : (k : ℕ) (ts : List Token) → each_at s q k ts ≡ mapped all (each_at s p k ts)
    each_map zero ts = refl
    each_map (suc k) ts = pick (starts s ts) (each_map k)
      where
        pick : (b : Bool) → ((us : List Token) → each_at s q k us ≡ mapped all (each_at s p k us))
            → cond b (q ts >>= λ x. each_at s q k x.1 >>= λ r. Ok (x.0 ∷ r.0, r.1)) (Ok ([], ts)) ≡ mapped all (cond b (p ts >>= λ x. each_at s p k x.1 >>= λ r. Ok (x.0 ∷ r.0, r.1)) (Ok ([], ts)))
        pick true again = ap (λ r. r >>= λ x. each_at s q k x.1 >>= λ y. Ok (x.0 ∷ y.0, y.1)) (same ts) ∙ each_step k again (p ts)
        pick false again = refl

  -- ---- operands

  abbrev both : List A × Unit {0} → List B × Unit {0}
  both x = (map g x.0, x.1)

  with_end : (l : List A) (r : Read (Unit {0})) → mapped (λ (e : Unit {0}). (map g l, e)) r ≡ mapped both (mapped (λ (e : Unit {0}). (l, e)) r)
  with_end l (Ok x) = refl
  with_end l (Err e) = refl

  until_rest : (c : List Token → Read (Unit {0})) (r : Read (List A)) → paired (mapped all r) c ≡ mapped both (paired r c)
  until_rest c (Ok x) = with_end x.0 (c x.1)
  until_rest c (Err e) = refl

  module _ (q : List Token → Read B) (p : List Token → Read A) (same : (ts : List Token) → q ts ≡ mapped g (p ts)) where
    next_of : (x : Read (Unit {0})) → mapped (λ (y : Unit {0} × B). y.1) (paired x q) ≡ mapped g (mapped (λ (y : Unit {0} × A). y.1) (paired x p))
    next_of (Ok x) = ap (λ r. mapped (λ (y : Unit {0} × B). y.1) (mapped (λ (b : B). (x.0, b)) r)) (same x.1) ∙ last (p x.1)
      where
        last : (r : Read A) → mapped (λ (y : Unit {0} × B). y.1) (mapped (λ (b : B). (x.0, b)) (mapped g r)) ≡ mapped g (mapped (λ (y : Unit {0} × A). y.1) (mapped (λ (a : A). (x.0, a)) r))
        last (Ok z) = refl
        last (Err e) = refl
    next_of (Err e) = refl

    next_map : (ts : List Token) → next_part_at q ts ≡ mapped g (next_part_at p ts)
    next_map ts = next_of (ending_at ts)

    until_map : (ts : List Token) → until_at end_words (next_part_at q) closing_at ts ≡ mapped both (until_at end_words (next_part_at p) closing_at ts)
    until_map ts = ap (λ r. paired r closing_at) (each_map end_words (next_part_at q) (next_part_at p) next_map (length ts) ts) ∙ until_rest closing_at (each_at end_words (next_part_at p) (length ts) ts)

    several_of : (x : Read A) → mapped firsts (paired (mapped g x) (until_at end_words (next_part_at q) closing_at)) ≡ mapped all (mapped firsts (paired x (until_at end_words (next_part_at p) closing_at)))
    several_of (Ok x) = ap (λ r. mapped firsts (mapped (λ (l : List B × Unit {0}). (g x.0, l)) r)) (until_map x.1) ∙ last (until_at end_words (next_part_at p) closing_at x.1)
      where
        last : (r : Read (List A × Unit {0})) → mapped firsts (mapped (λ (l : List B × Unit {0}). (g x.0, l)) (mapped both r)) ≡ mapped all (mapped firsts (mapped (λ (l : List A × Unit {0}). (x.0, l)) r))
        last (Ok z) = refl
        last (Err e) = refl
    several_of (Err e) = refl

    several_map : (ts : List Token) → several_at q ts ≡ mapped all (several_at p ts)
    several_map ts = ap (λ r. mapped firsts (paired r (until_at end_words (next_part_at q) closing_at))) (same ts) ∙ several_of (p ts)

    single_of : (x : Read A) → mapped (λ (y : B × Unit {0}). y.0 ∷ []) (paired (mapped g x) closing_at) ≡ mapped all (mapped (λ (y : A × Unit {0}). y.0 ∷ []) (paired x closing_at))
    single_of (Ok x) = last (closing_at x.1)
      where
        last : (r : Read (Unit {0})) → mapped (λ (y : B × Unit {0}). y.0 ∷ []) (mapped (λ (e : Unit {0}). (g x.0, e)) r) ≡ mapped all (mapped (λ (y : A × Unit {0}). y.0 ∷ []) (mapped (λ (e : Unit {0}). (x.0, e)) r))
        last (Ok z) = refl
        last (Err e) = refl
    single_of (Err e) = refl

    single_map : (ts : List Token) → single_operand_at q ts ≡ mapped all (single_operand_at p ts)
    single_map ts = ap (λ r. mapped (λ (y : B × Unit {0}). y.0 ∷ []) (paired r closing_at)) (same ts) ∙ single_of (p ts)

    operands_map : (form : InlineForm) (ts : List Token) → operands_at form q ts ≡ mapped all (operands_at form p ts)
    operands_map Alt ts = several_map ts
    operands_map Par ts = several_map ts
    operands_map Opt ts = single_map ts
    operands_map Exc ts = single_map ts
    operands_map Loop ts = single_map ts

    abbrev pub in_body : Naming × List A → Naming × List B
    in_body x = (x.0, map g x.1)

    body_of : (form : InlineForm) (x : Read Naming) → paired x (operands_at form q) ≡ mapped in_body (paired x (operands_at form p))
    body_of form (Ok x) = ap (λ r. mapped (λ (l : List B). (x.0, l)) r) (operands_map form x.1) ∙ last (operands_at form p x.1)
      where
        last : (r : Read (List A)) → mapped (λ (l : List B). (x.0, l)) (mapped all r) ≡ mapped in_body (mapped (λ (l : List A). (x.0, l)) r)
        last (Ok z) = refl
        last (Err e) = refl
    body_of form (Err e) = refl

    pub body_map : (orientation : Orientation) (form : InlineForm) (ts : List Token) → body_at orientation form q ts ≡ mapped in_body (body_at orientation form p ts)
    body_map orientation form ts = body_of form (naming_at orientation ts)
