-- The laws and rules of inline expressions, multis and events, by those of operands with the word behind them.
use Rattle.std.proofs.Common.{ℕ, zero, suc, ◌≡◌, ◌∙◌, ◌++◌, ◌⊎◌, List, [], ◌∷◌, refl, sym, ap, inl, inr, subst, append-nil, true, Some, None, codes}
use Rattle.std.proofs.lemmas.Bool.{or_cases}
use Rattle.msc_tokens.specs.declared.token.Token.{Token}
use Rattle.msc_tree.specs.Forms.{form_text}
use Rattle.msc_tree.specs.declared.reference.InlineForm.{InlineForm}
use Rattle.msc_tree.specs.declared.reference.InlineForm.TheVariants.{Alt, Opt, Par, Loop, Exc}
use Rattle.msc_tree.specs.Statements.{Item, Operand, Single, Coregion, Condition, Refer, Stop}
use Rattle.msc_tree.specs.Statements as tree
use Rattle.token_grammar.specs.Classes.{token_of}
use Rattle.token_grammar.specs.Languages.{Set, Read, among, apart, starts, second, just, map_at}
use Rattle.token_grammar.specs.Grammars.{Grammar, word, or, read_as}
use Rattle.token_grammar.specs.Parts.{ending}
use Rattle.token_grammar.proofs.Lists.{apart_none, among-append, two_starts}
use Rattle.token_grammar.proofs.Base.{Viable, opening_starts}
use Rattle.token_grammar.proofs.Levels.{Opened, reads_of, brink_of}
use Rattle.token_grammar.proofs.Rules.{Law, Rule, Word, seq_law, seq_rule, or_law, or_rule, as_law, as_rule, shut_law, inner_law, shut_rule, inner_rule}
use Rattle.token_grammar.proofs.Optionals.{none}
use Rattle.token_grammar.proofs.PartRules.{ends, placed_law, placed_rule}
use Rattle.msc_events.specs.Events.{single, coregion, stop}
use Rattle.msc_events.specs.Multis.{condition}
use Rattle.msc_events.specs.EventReaders.{single_words, single_at, coregion_at, stop_at}
use Rattle.msc_events.specs.MultiReaders.{condition_at}
use Rattle.msc_events.proofs.EventRules.{single_law, single_rule, coregion_law, coregion_rule, stop_law, stop_rule}
use Rattle.msc_events.proofs.MultiRules.{condition_law, condition_rule}
use Rattle.msc_expression.specs.declared.bounds.Bounds.{Bounds}
use Rattle.msc_expression.specs.Bounds.{bounds, bounds_of, kept, or_once, with_bounds}
use Rattle.msc_expression.proofs.BoundRules.{with_bounds_law, with_bounds_rule}
use Rattle.msc_expression.specs.ExpressionGrammar.{expression}
use Rattle.msc_expression.specs.ExpressionReaders.{expression_at}
use Rattle.msc_document.specs.Inlines.{Naming, Tail, before, closing, several, body, once, taken_once, inline_item, form}
use Rattle.msc_document.specs.Inlines as inlines
use Rattle.msc_document.specs.DocumentGrammar.{naming, reference}
use Rattle.msc_document.specs.DocumentReaders.{form_word, form_seconds, form_words, multi_words, event_words, body_at, tail_of_at, form_at, inline_at, multi_at, event_at, reference_at}
use Rattle.msc_document.proofs.OperandRules.{several_law, several_rule, naming_words, naming_law, naming_rule}
use Rattle.msc_document.proofs.OperandRules as operands
use Rattle.msc_document.proofs.Parts.{behind_in}
use Rattle.msc_document.proofs.References.{reference_law, reference_rule}
use Rattle.msc_events.specs.declared.orientation.Orientation.{Orientation}
use Rattle.msc_events.specs.declared.orientation.Orientation.TheVariants as written

-- the words of two forms are one, or no token is both
same_or_apart : (j k : InlineForm) → (apart (form_word j) (form_word k) ≡ true) ⊎ (j ≡ k)
same_or_apart Alt Alt = inr refl
same_or_apart Alt Par = inl refl
same_or_apart Alt Opt = inl refl
same_or_apart Alt Exc = inl refl
same_or_apart Alt Loop = inl refl
same_or_apart Par Alt = inl refl
same_or_apart Par Par = inr refl
same_or_apart Par Opt = inl refl
same_or_apart Par Exc = inl refl
same_or_apart Par Loop = inl refl
same_or_apart Opt Alt = inl refl
same_or_apart Opt Par = inl refl
same_or_apart Opt Opt = inr refl
same_or_apart Opt Exc = inl refl
same_or_apart Opt Loop = inl refl
same_or_apart Exc Alt = inl refl
same_or_apart Exc Par = inl refl
same_or_apart Exc Opt = inl refl
same_or_apart Exc Exc = inr refl
same_or_apart Exc Loop = inl refl
same_or_apart Loop Alt = inl refl
same_or_apart Loop Par = inl refl
same_or_apart Loop Opt = inl refl
same_or_apart Loop Exc = inl refl
same_or_apart Loop Loop = inr refl

pub form_text_is : (k : InlineForm) → among (form_word k) (token_of (form_text k)) ≡ true
form_text_is Alt = refl
form_text_is Par = refl
form_text_is Opt = refl
form_text_is Exc = refl
form_text_is Loop = refl

-- what stands in another set has no second token to look at
pub other_word : (s w t : Set) (x : List Token) → apart s w ≡ true → starts s x ≡ true → starts w x ≡ true → second w t x ≡ true
other_word s w t x free h k = absurd (two_starts s w x free h k)

-- an end without comment
no_comment : ending.reads (token_of (codes ";") ∷ []) tt
no_comment = ((tt, codes ";"), ((None, codes ";"), inr (codes ";", (token_of (codes ";"), (refl, refl), refl), refl), refl), refl)

-- bounds behind their first token
some_bounds : (e : Token) → among (just (codes "<")) e ≡ true → (b : Bounds) × bounds.reads (e ∷ token_of (codes "0") ∷ token_of (codes ">") ∷ []) b
some_bounds e is = (
  bounds_of (kept (codes "0")) None,
  (
    (e, bounds_of (kept (codes "0")) None),
    (
      e ∷ [],
      token_of (codes "0") ∷ token_of (codes ">") ∷ [],
      refl,
      (refl, is),
      (
        (kept (codes "0"), (None, codes ">")),
        (
          token_of (codes "0") ∷ [],
          token_of (codes ">") ∷ [],
          refl,
          (codes "0", (token_of (codes "0"), (refl, refl), refl), refl),
          ((None, codes ">"), inr (codes ">", (token_of (codes ">"), (refl, refl), refl), refl), refl),
        ),
        refl,
      ),
    ),
    refl,
  ),
)

-- operands with their words: what begins them, and what can't follow the word
module _ {A : Type 0} (orientation : Orientation) (f : A → Operand) (E : ℕ → Grammar A) (none_yet : (m : ℕ) → (a : A) × (E m).reads [] a) (P : InlineForm → Set) (D : InlineForm → A → Set)
    (no_end : (k : InlineForm) (a : A) → apart ends (D k a) ≡ true) (no_closing : (k : InlineForm) (a : A) → apart (just (codes "end")) (D k a) ≡ true) where
  abbrev pub Part : InlineForm → ℕ → Grammar A
  Part k m = before (E m) (word (form_word k))

  abbrev Body : InlineForm → ℕ → Grammar (Naming × List A)
  Body Alt m = body (naming orientation) (several (form_word Alt) (E m))
  Body Par m = body (naming orientation) (several (form_word Par) (E m))
  Body Opt m = body (naming orientation) (inlines.single (form_word Opt) (E m))
  Body Exc m = body (naming orientation) (inlines.single (form_word Exc) (E m))
  Body Loop m = body (naming orientation) (inlines.single (form_word Loop) (E m))

  abbrev pub TailOf : InlineForm → ℕ → Grammar (Tail A)
  TailOf Alt n = read_as taken_once (Opened (just (codes "begin")) (Body Alt) n)
  TailOf Par n = read_as taken_once (Opened (just (codes "begin")) (Body Par) n)
  TailOf Opt n = read_as taken_once (Opened (just (codes "begin")) (Body Opt) n)
  TailOf Exc n = read_as taken_once (Opened (just (codes "begin")) (Body Exc) n)
  TailOf Loop n = with_bounds (Opened (just (codes "begin")) (Body Loop) n)

  abbrev FormOf : InlineForm → ℕ → Grammar Item
  FormOf k m = form f k (form_word k) (TailOf k m)

  abbrev pub Inlines : ℕ → Grammar Item
  Inlines n = or (FormOf Alt n) (or (FormOf Par n) (or (FormOf Opt n) (or (FormOf Exc n) (FormOf Loop n))))

  abbrev Conditions : ℕ → Grammar Item
  Conditions n = read_as (λ p. tree.placed p.0 (Condition p.1 p.2)) (condition orientation)

  abbrev References : ℕ → Grammar Item
  References n = read_as (λ p. tree.placed p.0 (Refer p.1)) (reference orientation (expression n))

  abbrev pub Multis : ℕ → Grammar Item
  Multis n = or (Conditions n) (or (Inlines n) (References n))

  abbrev Singles : ℕ → Grammar Item
  Singles n = read_as (λ e. tree.placed e.place (Single e)) single

  abbrev Coregions : ℕ → Grammar Item
  Coregions n = read_as (λ p. tree.placed p.0 (Coregion p.1)) coregion

  abbrev Stops : ℕ → Grammar Item
  Stops n = read_as (λ place. tree.placed place Stop) stop

  abbrev pub Events : ℕ → Grammar Item
  Events n = or (Singles n) (or (Coregions n) (or (Multis n) (Stops n)))

  -- ---- at most one reading

  abbrev pub TailLaws : ℕ → Type 0
  TailLaws n = (k : InlineForm) → Law (TailOf k) n (form_seconds k) none

  abbrev pub PartLaws : ℕ → Type 0
  PartLaws n = (k : InlineForm) → Law (Part k) n (P k) (D k)

  form_law : (k : InlineForm) (n : ℕ) → Law (TailOf k) n (form_seconds k) none → Law (FormOf k) n (form_word k) none
  form_law k n r = as_law (inline_item f k) none (placed_law (form_word k) r) (λ a. refl)

  inlines_law : (n : ℕ) → TailLaws n → Law Inlines n form_words none
  inlines_law n t = or_law (form_law Alt n (t Alt)) (or_law (form_law Par n (t Par)) (or_law (form_law Opt n (t Opt)) (or_law (form_law Exc n (t Exc)) (form_law Loop n (t Loop)) refl) refl) refl) refl

  conditions_law : (n : ℕ) → Law Conditions n (just (codes "condition")) none
  conditions_law n = as_law (λ p. tree.placed p.0 (Condition p.1 p.2)) none (condition_law orientation n) (λ a. refl)

  references_law : (n : ℕ) → Law References n (just (codes "reference")) none
  references_law n = as_law (λ p. tree.placed p.0 (Refer p.1)) none (reference_law orientation n) (λ a. refl)

  singles_law : (n : ℕ) → Law Singles n single_words none
  singles_law n = as_law (λ e. tree.placed e.place (Single e)) none (single_law n) (λ a. refl)

  coregions_law : (n : ℕ) → Law Coregions n (just (codes "concurrent")) none
  coregions_law n = as_law (λ p. tree.placed p.0 (Coregion p.1)) none (coregion_law n) (λ a. refl)

  stops_law : (n : ℕ) → Law Stops n (just (codes "stop")) none
  stops_law n = as_law (λ place. tree.placed place Stop) none (stop_law n) (λ a. refl)

  pub multis_law : (n : ℕ) → TailLaws n → Law Multis n multi_words none
  multis_law n t = or_law (conditions_law n) (or_law (inlines_law n t) (references_law n) refl) refl

  pub events_law : (n : ℕ) → TailLaws n → Law Events n event_words none
  events_law n t = or_law (singles_law n) (or_law (coregions_law n) (or_law (multis_law n t) (stops_law n) refl) refl) refl

  body_law : (k : InlineForm) (n : ℕ) → Law (Part k) n (P k) (D k) → Law (Body k) n (naming_words orientation) none
  body_law Alt n r = seq_law (naming_law orientation n) (several_law (form_word Alt) E (P Alt) (D Alt) n (no_end Alt) (no_closing Alt) r) (λ a. apart_none (P Alt))
  body_law Par n r = seq_law (naming_law orientation n) (several_law (form_word Par) E (P Par) (D Par) n (no_end Par) (no_closing Par) r) (λ a. apart_none (P Par))
  body_law Opt n r = seq_law (naming_law orientation n) (operands.single_law (form_word Opt) E (P Opt) (D Opt) n (no_end Opt) (no_closing Opt) r) (λ a. apart_none (P Opt))
  body_law Exc n r = seq_law (naming_law orientation n) (operands.single_law (form_word Exc) E (P Exc) (D Exc) n (no_end Exc) (no_closing Exc) r) (λ a. apart_none (P Exc))
  body_law Loop n r = seq_law (naming_law orientation n) (operands.single_law (form_word Loop) E (P Loop) (D Loop) n (no_end Loop) (no_closing Loop) r) (λ a. apart_none (P Loop))

  pub shut_laws : TailLaws 0
  shut_laws Alt = as_law taken_once none (shut_law (just (codes "begin"))) (λ a. refl)
  shut_laws Par = as_law taken_once none (shut_law (just (codes "begin"))) (λ a. refl)
  shut_laws Opt = as_law taken_once none (shut_law (just (codes "begin"))) (λ a. refl)
  shut_laws Exc = as_law taken_once none (shut_law (just (codes "begin"))) (λ a. refl)
  shut_laws Loop = with_bounds_law (shut_law (just (codes "begin"))) refl

  pub inner_laws : (n : ℕ) → PartLaws n → TailLaws (suc n)
  inner_laws n r Alt = as_law taken_once none (inner_law (just (codes "begin")) (body_law Alt n (r Alt))) (λ a. refl)
  inner_laws n r Par = as_law taken_once none (inner_law (just (codes "begin")) (body_law Par n (r Par))) (λ a. refl)
  inner_laws n r Opt = as_law taken_once none (inner_law (just (codes "begin")) (body_law Opt n (r Opt))) (λ a. refl)
  inner_laws n r Exc = as_law taken_once none (inner_law (just (codes "begin")) (body_law Exc n (r Exc))) (λ a. refl)
  inner_laws n r Loop = with_bounds_law (inner_law (just (codes "begin")) (body_law Loop n (r Loop))) refl

  -- ---- what stands behind the word of a form

  form_out : (k : InlineForm) (m : ℕ) (x : List Token) (e : Item) → (FormOf k m).reads x e → (t : Token) × (z : List Token) × (a : Tail A) × (x ≡ t ∷ z) × (among (form_word k) t ≡ true) × (TailOf k m).reads z a
  form_out k m x e h =
      let g = h.1 in
      let p = g.1 in
      (g.0.0, p.1, g.0.1, p.2 ∙ ap (λ l. l ++ p.1) p.3.0, p.3.1, p.4)

  form_brink_out : (k : InlineForm) (m : ℕ) (x : List Token) → (FormOf k m).brink x → (t : Token) × (z : List Token) × (x ≡ t ∷ z) × (among (form_word k) t ≡ true) × (TailOf k m).brink z
  form_brink_out k m x (inl h) = absurd h
  form_brink_out k m x (inr p) = (p.2, p.1, p.3 ∙ ap (λ l. l ++ p.1) p.4.0, p.4.1, p.5)

  one_more : (w t : Set) (x : List Token) (c : Token) (z : List Token) → x ≡ c ∷ z → among w c ≡ true → starts t z ≡ true → second w t x ≡ true
  one_more w t x c z e is h = rw (e, is) h

  abbrev pub LateIn : InlineForm → Grammar Item → Type 0
  LateIn k R = (x : List Token) (e : Item) → R.reads x e → starts (form_word k) x ≡ true → second (form_word k) (form_seconds k) x ≡ true

  abbrev pub LateBrink : InlineForm → Grammar Item → Type 0
  LateBrink k R = (x : List Token) → R.brink x → starts (form_word k) x ≡ true → second (form_word k) (form_seconds k) x ≡ true

  or_late : (k : InlineForm) (R S : Grammar Item) → LateIn k R → LateIn k S → LateIn k (or R S)
  or_late k R S r s x e (inl h) w = r x e h w
  or_late k R S r s x e (inr h) w = s x e h w

  or_late_brink : (k : InlineForm) (R S : Grammar Item) → LateBrink k R → LateBrink k S → LateBrink k (or R S)
  or_late_brink k R S r s x (inl h) w = r x h w
  or_late_brink k R S r s x (inr h) w = s x h w

  other_late : (k : InlineForm) (R : ℕ → Grammar Item) (n m : ℕ) (F : Set) → Law R n F none → apart F (form_word k) ≡ true → LateIn k (R m)
  other_late k R n m F law free x e h w = other_word F (form_word k) (form_seconds k) x free (law.laws.begins m x e h) w

  other_late_brink : (k : InlineForm) (R : ℕ → Grammar Item) (n : ℕ) (F : Set) {p : List Token → Read Item} → Rule R n F none p → apart F (form_word k) ≡ true → LateBrink k (R n)
  other_late_brink k R n F rule free x h w =
      other_word F (form_word k) (form_seconds k) x free (subst (λ l. starts F l ≡ true) (append-nil x) (opening_starts (reads_of R) (brink_of R) F none n rule.known x h [])) w

  form_late : (j k : InlineForm) (n m : ℕ) → Law (TailOf j) n (form_seconds j) none → LateIn k (FormOf j m)
  form_late j k n m law x e h w = pick (same_or_apart j k)
    where
      o : (t : Token) × (z : List Token) × (a : Tail A) × (x ≡ t ∷ z) × (among (form_word j) t ≡ true) × (TailOf j m).reads z a
      o = form_out j m x e h

      pick : (apart (form_word j) (form_word k) ≡ true) ⊎ (j ≡ k) → second (form_word k) (form_seconds k) x ≡ true
      pick (inl free) = other_word (form_word j) (form_word k) (form_seconds k) x free (rw o.3 o.4) w
      pick (inr same) = subst (λ (i : InlineForm). second (form_word i) (form_seconds i) x ≡ true) same (one_more (form_word j) (form_seconds j) x o.0 o.1 o.3 o.4 (law.laws.begins m o.1 o.2 o.5))

  form_late_brink : (j k : InlineForm) (n : ℕ) {p : List Token → Read (Tail A)} → Rule (TailOf j) n (form_seconds j) none p → LateBrink k (FormOf j n)
  form_late_brink j k n rule x h w = pick (same_or_apart j k)
    where
      o : (t : Token) × (z : List Token) × (x ≡ t ∷ z) × (among (form_word j) t ≡ true) × (TailOf j n).brink z
      o = form_brink_out j n x h

      behind : starts (form_seconds j) o.1 ≡ true
      behind = subst (λ l. starts (form_seconds j) l ≡ true) (append-nil o.1) (opening_starts (reads_of (TailOf j)) (brink_of (TailOf j)) (form_seconds j) none n rule.known o.1 o.4 [])

      pick : (apart (form_word j) (form_word k) ≡ true) ⊎ (j ≡ k) → second (form_word k) (form_seconds k) x ≡ true
      pick (inl free) = other_word (form_word j) (form_word k) (form_seconds k) x free (rw o.2 o.3) w
      pick (inr same) = subst (λ (i : InlineForm). second (form_word i) (form_seconds i) x ≡ true) same (one_more (form_word j) (form_seconds j) x o.0 o.1 o.2 o.3 behind)

  inlines_late : (k : InlineForm) (n m : ℕ) → TailLaws n → LateIn k (Inlines m)
  inlines_late k n m t = or_late k (FormOf Alt m) (or (FormOf Par m) (or (FormOf Opt m) (or (FormOf Exc m) (FormOf Loop m)))) (form_late Alt k n m (t Alt))
      (or_late k (FormOf Par m) (or (FormOf Opt m) (or (FormOf Exc m) (FormOf Loop m))) (form_late Par k n m (t Par))
      (or_late k (FormOf Opt m) (or (FormOf Exc m) (FormOf Loop m)) (form_late Opt k n m (t Opt)) (or_late k (FormOf Exc m) (FormOf Loop m) (form_late Exc k n m (t Exc)) (form_late Loop k n m (t Loop)))))

  abbrev pub TailRules : ℕ → (InlineForm → List Token → Read (Tail A)) → Type 0
  TailRules n p = (k : InlineForm) → Rule (TailOf k) n (form_seconds k) none (p k)

  inlines_late_brink : (k : InlineForm) (n : ℕ) (p : InlineForm → List Token → Read (Tail A)) → TailRules n p → LateBrink k (Inlines n)
  inlines_late_brink k n p t = or_late_brink k (FormOf Alt n) (or (FormOf Par n) (or (FormOf Opt n) (or (FormOf Exc n) (FormOf Loop n)))) (form_late_brink Alt k n (t Alt))
      (or_late_brink k (FormOf Par n) (or (FormOf Opt n) (or (FormOf Exc n) (FormOf Loop n))) (form_late_brink Par k n (t Par))
      (or_late_brink k (FormOf Opt n) (or (FormOf Exc n) (FormOf Loop n)) (form_late_brink Opt k n (t Opt)) (or_late_brink k (FormOf Exc n) (FormOf Loop n) (form_late_brink Exc k n (t Exc)) (form_late_brink Loop k n (t Loop)))))

  free_condition : (k : InlineForm) → apart (just (codes "condition")) (form_word k) ≡ true
  free_condition Alt = refl
  free_condition Par = refl
  free_condition Opt = refl
  free_condition Exc = refl
  free_condition Loop = refl

  free_reference : (k : InlineForm) → apart (just (codes "reference")) (form_word k) ≡ true
  free_reference Alt = refl
  free_reference Par = refl
  free_reference Opt = refl
  free_reference Exc = refl
  free_reference Loop = refl

  free_single : (k : InlineForm) → apart single_words (form_word k) ≡ true
  free_single Alt = refl
  free_single Par = refl
  free_single Opt = refl
  free_single Exc = refl
  free_single Loop = refl

  free_coregion : (k : InlineForm) → apart (just (codes "concurrent")) (form_word k) ≡ true
  free_coregion Alt = refl
  free_coregion Par = refl
  free_coregion Opt = refl
  free_coregion Exc = refl
  free_coregion Loop = refl

  free_stop : (k : InlineForm) → apart (just (codes "stop")) (form_word k) ≡ true
  free_stop Alt = refl
  free_stop Par = refl
  free_stop Opt = refl
  free_stop Exc = refl
  free_stop Loop = refl

  pub multis_late : (k : InlineForm) (n m : ℕ) → TailLaws n → LateIn k (Multis m)
  multis_late k n m t = or_late k (Conditions m) (or (Inlines m) (References m)) (other_late k Conditions n m (just (codes "condition")) (conditions_law n) (free_condition k))
      (or_late k (Inlines m) (References m) (inlines_late k n m t) (other_late k References n m (just (codes "reference")) (references_law n) (free_reference k)))

  pub events_late : (k : InlineForm) (n m : ℕ) → TailLaws n → LateIn k (Events m)
  events_late k n m t = or_late k (Singles m) (or (Coregions m) (or (Multis m) (Stops m))) (other_late k Singles n m single_words (singles_law n) (free_single k))
      (or_late k (Coregions m) (or (Multis m) (Stops m)) (other_late k Coregions n m (just (codes "concurrent")) (coregions_law n) (free_coregion k))
      (or_late k (Multis m) (Stops m) (multis_late k n m t) (other_late k Stops n m (just (codes "stop")) (stops_law n) (free_stop k))))

  -- ---- the readers

  form_rule : (k : InlineForm) (n : ℕ) {p : List Token → Read (Tail A)} → Rule (TailOf k) n (form_seconds k) none p → Rule (FormOf k) n (form_word k) none (form_at f k p)
  form_rule k n r = as_rule (inline_item f k) none (placed_rule (form_word k) (form_text k) (form_text_is k) r) (λ a. refl)

  inlines_rule : (n : ℕ) (p : InlineForm → List Token → Read (Tail A)) → TailRules n p → Rule Inlines n form_words none (inline_at f p)
  inlines_rule n p t = or_rule (form_rule Alt n (t Alt)) (or_rule (form_rule Par n (t Par)) (or_rule (form_rule Opt n (t Opt)) (or_rule (form_rule Exc n (t Exc)) (form_rule Loop n (t Loop)) refl) refl) refl) refl

  conditions_rule : (n : ℕ) → Rule Conditions n (just (codes "condition")) none (map_at (λ p. tree.placed p.0 (Condition p.1 p.2)) (condition_at orientation))
  conditions_rule n = as_rule (λ p. tree.placed p.0 (Condition p.1 p.2)) none (condition_rule orientation n) (λ a. refl)

  references_rule : (n : ℕ) → Rule References n (just (codes "reference")) none (map_at (λ p. tree.placed p.0 (Refer p.1)) (reference_at orientation (expression_at n)))
  references_rule n = as_rule (λ p. tree.placed p.0 (Refer p.1)) none (reference_rule orientation n) (λ a. refl)

  singles_rule : (n : ℕ) → Rule Singles n single_words none (map_at (λ e. tree.placed e.place (Single e)) single_at)
  singles_rule n = as_rule (λ e. tree.placed e.place (Single e)) none (single_rule n) (λ a. refl)

  coregions_rule : (n : ℕ) → Rule Coregions n (just (codes "concurrent")) none (map_at (λ p. tree.placed p.0 (Coregion p.1)) coregion_at)
  coregions_rule n = as_rule (λ p. tree.placed p.0 (Coregion p.1)) none (coregion_rule n) (λ a. refl)

  stops_rule : (n : ℕ) → Rule Stops n (just (codes "stop")) none (map_at (λ place. tree.placed place Stop) stop_at)
  stops_rule n = as_rule (λ place. tree.placed place Stop) none (stop_rule n) (λ a. refl)

  pub multis_rule : (n : ℕ) (p : InlineForm → List Token → Read (Tail A)) → TailRules n p → Rule Multis n multi_words none (multi_at orientation f (expression_at n) p)
  multis_rule n p t = or_rule (conditions_rule n) (or_rule (inlines_rule n p t) (references_rule n) refl) refl

  pub events_rule : (n : ℕ) (p : InlineForm → List Token → Read (Tail A)) → TailRules n p → Rule Events n event_words none (event_at orientation f (expression_at n) p)
  events_rule n p t = or_rule (singles_rule n) (or_rule (coregions_rule n) (or_rule (multis_rule n p t) (stops_rule n) refl) refl) refl

  pub multis_late_brink : (k : InlineForm) (n : ℕ) (p : InlineForm → List Token → Read (Tail A)) → TailRules n p → LateBrink k (Multis n)
  multis_late_brink k n p t = or_late_brink k (Conditions n) (or (Inlines n) (References n)) (other_late_brink k Conditions n (just (codes "condition")) (conditions_rule n) (free_condition k))
      (or_late_brink k (Inlines n) (References n) (inlines_late_brink k n p t) (other_late_brink k References n (just (codes "reference")) (references_rule n) (free_reference k)))

  pub events_late_brink : (k : InlineForm) (n : ℕ) (p : InlineForm → List Token → Read (Tail A)) → TailRules n p → LateBrink k (Events n)
  events_late_brink k n p t = or_late_brink k (Singles n) (or (Coregions n) (or (Multis n) (Stops n))) (other_late_brink k Singles n single_words (singles_rule n) (free_single k))
      (or_late_brink k (Coregions n) (or (Multis n) (Stops n)) (other_late_brink k Coregions n (just (codes "concurrent")) (coregions_rule n) (free_coregion k))
      (or_late_brink k (Multis n) (Stops n) (multis_late_brink k n p t) (other_late_brink k Stops n (just (codes "stop")) (stops_rule n) (free_stop k))))

  abbrev pub PartRules : ℕ → (InlineForm → List Token → Read A) → Type 0
  PartRules n q = (k : InlineForm) → Rule (Part k) n (P k) (D k) (q k)

  body_rule : (k : InlineForm) (n : ℕ) {q : List Token → Read A} → Rule (Part k) n (P k) (D k) q → Rule (Body k) n (naming_words orientation) none (body_at orientation k q)
  body_rule Alt n r = seq_rule (naming_rule orientation n) (several_rule (form_word Alt) E (P Alt) (D Alt) n (no_end Alt) (no_closing Alt) r) (λ a. apart_none (P Alt))
  body_rule Par n r = seq_rule (naming_rule orientation n) (several_rule (form_word Par) E (P Par) (D Par) n (no_end Par) (no_closing Par) r) (λ a. apart_none (P Par))
  body_rule Opt n r = seq_rule (naming_rule orientation n) (operands.single_rule (form_word Opt) E (P Opt) (D Opt) n (no_end Opt) (no_closing Opt) r) (λ a. apart_none (P Opt))
  body_rule Exc n r = seq_rule (naming_rule orientation n) (operands.single_rule (form_word Exc) E (P Exc) (D Exc) n (no_end Exc) (no_closing Exc) r) (λ a. apart_none (P Exc))
  body_rule Loop n r = seq_rule (naming_rule orientation n) (operands.single_rule (form_word Loop) E (P Loop) (D Loop) n (no_end Loop) (no_closing Loop) r) (λ a. apart_none (P Loop))

  -- the shortest operands
  no_naming : (orientation : Orientation) → (naming orientation).reads (token_of (codes ";") ∷ []) (None, None)
  no_naming written.Column = ((None, (None, tt)), ((None, (None, tt)), inr ((None, tt), inr (tt, no_comment, refl), refl), refl), refl)
  no_naming written.Covered = ((None, (None, tt)), ((None, (None, tt)), inr ((None, tt), (tt, no_comment, refl), refl), refl), refl)

  body_word : (k : InlineForm) → Word (Body k)
  body_word Alt = record { more = token_of (codes ";") ∷ token_of (codes "alt") ∷ token_of (codes "end") ∷ token_of (codes ";") ∷ []; value = ((None, None), (none_yet 0).0 ∷ []); holds = (token_of (codes ";") ∷ [], token_of (codes "alt") ∷ token_of (codes "end") ∷ token_of (codes ";") ∷ [], refl, no_naming orientation, (((none_yet 0).0, ([], tt)), ([], token_of (codes "alt") ∷ token_of (codes "end") ∷ token_of (codes ";") ∷ [], refl, (none_yet 0).1, ([], token_of (codes "alt") ∷ token_of (codes "end") ∷ token_of (codes ";") ∷ [], refl, refl, behind_in (form_word Alt) closing (token_of (codes "alt")) (token_of (codes "end") ∷ token_of (codes ";") ∷ []) tt refl (behind_in (just (codes "end")) ending (token_of (codes "end")) (token_of (codes ";") ∷ []) tt refl no_comment))), refl)) }
  body_word Par = record { more = token_of (codes ";") ∷ token_of (codes "par") ∷ token_of (codes "end") ∷ token_of (codes ";") ∷ []; value = ((None, None), (none_yet 0).0 ∷ []); holds = (token_of (codes ";") ∷ [], token_of (codes "par") ∷ token_of (codes "end") ∷ token_of (codes ";") ∷ [], refl, no_naming orientation, (((none_yet 0).0, ([], tt)), ([], token_of (codes "par") ∷ token_of (codes "end") ∷ token_of (codes ";") ∷ [], refl, (none_yet 0).1, ([], token_of (codes "par") ∷ token_of (codes "end") ∷ token_of (codes ";") ∷ [], refl, refl, behind_in (form_word Par) closing (token_of (codes "par")) (token_of (codes "end") ∷ token_of (codes ";") ∷ []) tt refl (behind_in (just (codes "end")) ending (token_of (codes "end")) (token_of (codes ";") ∷ []) tt refl no_comment))), refl)) }
  body_word Opt = record { more = token_of (codes ";") ∷ token_of (codes "opt") ∷ token_of (codes "end") ∷ token_of (codes ";") ∷ []; value = ((None, None), (none_yet 0).0 ∷ []); holds = (token_of (codes ";") ∷ [], token_of (codes "opt") ∷ token_of (codes "end") ∷ token_of (codes ";") ∷ [], refl, no_naming orientation, (((none_yet 0).0, tt), ([], token_of (codes "opt") ∷ token_of (codes "end") ∷ token_of (codes ";") ∷ [], refl, (none_yet 0).1, behind_in (form_word Opt) closing (token_of (codes "opt")) (token_of (codes "end") ∷ token_of (codes ";") ∷ []) tt refl (behind_in (just (codes "end")) ending (token_of (codes "end")) (token_of (codes ";") ∷ []) tt refl no_comment)), refl)) }
  body_word Exc = record { more = token_of (codes ";") ∷ token_of (codes "exc") ∷ token_of (codes "end") ∷ token_of (codes ";") ∷ []; value = ((None, None), (none_yet 0).0 ∷ []); holds = (token_of (codes ";") ∷ [], token_of (codes "exc") ∷ token_of (codes "end") ∷ token_of (codes ";") ∷ [], refl, no_naming orientation, (((none_yet 0).0, tt), ([], token_of (codes "exc") ∷ token_of (codes "end") ∷ token_of (codes ";") ∷ [], refl, (none_yet 0).1, behind_in (form_word Exc) closing (token_of (codes "exc")) (token_of (codes "end") ∷ token_of (codes ";") ∷ []) tt refl (behind_in (just (codes "end")) ending (token_of (codes "end")) (token_of (codes ";") ∷ []) tt refl no_comment)), refl)) }
  body_word Loop = record { more = token_of (codes ";") ∷ token_of (codes "loop") ∷ token_of (codes "end") ∷ token_of (codes ";") ∷ []; value = ((None, None), (none_yet 0).0 ∷ []); holds = (token_of (codes ";") ∷ [], token_of (codes "loop") ∷ token_of (codes "end") ∷ token_of (codes ";") ∷ [], refl, no_naming orientation, (((none_yet 0).0, tt), ([], token_of (codes "loop") ∷ token_of (codes "end") ∷ token_of (codes ";") ∷ [], refl, (none_yet 0).1, behind_in (form_word Loop) closing (token_of (codes "loop")) (token_of (codes "end") ∷ token_of (codes ";") ∷ []) tt refl (behind_in (just (codes "end")) ending (token_of (codes "end")) (token_of (codes ";") ∷ []) tt refl no_comment)), refl)) }

  pub shut_rules : ((m : ℕ) → PartLaws m) → TailRules 0 (λ k. tail_of_at orientation k None)
  shut_rules r Alt = as_rule taken_once none (shut_rule (just (codes "begin")) (codes "begin") refl (λ m. body_law Alt m (r m Alt)) (body_word Alt)) (λ a. refl)
  shut_rules r Par = as_rule taken_once none (shut_rule (just (codes "begin")) (codes "begin") refl (λ m. body_law Par m (r m Par)) (body_word Par)) (λ a. refl)
  shut_rules r Opt = as_rule taken_once none (shut_rule (just (codes "begin")) (codes "begin") refl (λ m. body_law Opt m (r m Opt)) (body_word Opt)) (λ a. refl)
  shut_rules r Exc = as_rule taken_once none (shut_rule (just (codes "begin")) (codes "begin") refl (λ m. body_law Exc m (r m Exc)) (body_word Exc)) (λ a. refl)
  shut_rules r Loop = with_bounds_rule (shut_rule (just (codes "begin")) (codes "begin") refl (λ m. body_law Loop m (r m Loop)) (body_word Loop)) refl

  pub inner_rules : (n : ℕ) (q : InlineForm → List Token → Read A) → PartRules n q → TailRules (suc n) (λ k. tail_of_at orientation k (Some (q k)))
  inner_rules n q r Alt = as_rule taken_once none (inner_rule (just (codes "begin")) (codes "begin") refl (body_rule Alt n (r Alt))) (λ a. refl)
  inner_rules n q r Par = as_rule taken_once none (inner_rule (just (codes "begin")) (codes "begin") refl (body_rule Par n (r Par))) (λ a. refl)
  inner_rules n q r Opt = as_rule taken_once none (inner_rule (just (codes "begin")) (codes "begin") refl (body_rule Opt n (r Opt))) (λ a. refl)
  inner_rules n q r Exc = as_rule taken_once none (inner_rule (just (codes "begin")) (codes "begin") refl (body_rule Exc n (r Exc))) (λ a. refl)
  inner_rules n q r Loop = with_bounds_rule (inner_rule (just (codes "begin")) (codes "begin") refl (body_rule Loop n (r Loop))) refl

  -- ---- a form's word and what may stand behind it begin an inline expression

  module _ (laws : (m : ℕ) → PartLaws m) where
    body_somewhere : (k : InlineForm) (n : ℕ) → Viable (reads_of (Body k)) n []
    body_somewhere k zero = body_word k
    body_somewhere k (suc n) = let v = body_somewhere k n in record { more = v.more; value = v.value; holds = (body_law k n (laws n k)).laws.up v.more v.value v.holds }

    once_begun : (k : InlineForm) (n : ℕ) (e : Token) → among (just (codes "begin")) e ≡ true → Viable (reads_of (λ m. read_as taken_once (Opened (just (codes "begin")) (Body k) m))) (suc n) (e ∷ [])
    once_begun k n e is = let v = body_somewhere k n in record { more = v.more; value = (once, v.value); holds = (v.value, (e, v.more, refl, is, v.holds), refl) }

    loop_begun : (n : ℕ) (e : Token) → among (form_seconds Loop) e ≡ true → Viable (reads_of (TailOf Loop)) (suc n) (e ∷ [])
    loop_begun n e is = pick (or_cases (among (just (codes "<")) e) (among (just (codes "begin")) e) (sym (among-append (just (codes "<")) (just (codes "begin")) e) ∙ is))
      where
        v : Viable (reads_of (Body Loop)) n []
        v = body_somewhere Loop n

        pick : (among (just (codes "<")) e ≡ true) ⊎ (among (just (codes "begin")) e ≡ true) → Viable (reads_of (TailOf Loop)) (suc n) (e ∷ [])
        pick (inr begin) = record { more = v.more; value = (or_once None, v.value); holds = ((None, v.value), inr (v.value, (e, v.more, refl, begin, v.holds), refl), refl) }
        pick (inl less) =
            let b = some_bounds e less in
            record {
              more = token_of (codes "0") ∷ token_of (codes ">") ∷ token_of (codes "begin") ∷ v.more;
              value = (or_once (Some b.0), v.value);
              holds = ((Some b.0, v.value), inl ((b.0, v.value), (e ∷ token_of (codes "0") ∷ token_of (codes ">") ∷ [], token_of (codes "begin") ∷ v.more, refl, b.1, (token_of (codes "begin"), v.more, refl, refl, v.holds)), refl), refl);
            }

    tail_begun : (k : InlineForm) (n : ℕ) (e : Token) → among (form_seconds k) e ≡ true → Viable (reads_of (TailOf k)) (suc n) (e ∷ [])
    tail_begun Alt n e is = once_begun Alt n e is
    tail_begun Par n e is = once_begun Par n e is
    tail_begun Opt n e is = once_begun Opt n e is
    tail_begun Exc n e is = once_begun Exc n e is
    tail_begun Loop n e is = loop_begun n e is

    form_begun : (k : InlineForm) (n : ℕ) (d e : Token) → among (form_word k) d ≡ true → among (form_seconds k) e ≡ true → Viable (reads_of (FormOf k)) (suc n) (d ∷ e ∷ [])
    form_begun k n d e is h =
        let v = tail_begun k n e h in
        record { more = v.more; value = inline_item f k (d.place, v.value); holds = ((d.place, v.value), ((d, v.value), (d ∷ [], e ∷ v.more, refl, (refl, is), v.holds), refl), refl) }

    inlines_begun : (k : InlineForm) (n : ℕ) (d e : Token) → among (form_word k) d ≡ true → among (form_seconds k) e ≡ true → Viable (reads_of Inlines) (suc n) (d ∷ e ∷ [])
    inlines_begun Alt n d e is h = let v = form_begun Alt n d e is h in record { more = v.more; value = v.value; holds = inl v.holds }
    inlines_begun Par n d e is h = let v = form_begun Par n d e is h in record { more = v.more; value = v.value; holds = inr (inl v.holds) }
    inlines_begun Opt n d e is h = let v = form_begun Opt n d e is h in record { more = v.more; value = v.value; holds = inr (inr (inl v.holds)) }
    inlines_begun Exc n d e is h = let v = form_begun Exc n d e is h in record { more = v.more; value = v.value; holds = inr (inr (inr (inl v.holds))) }
    inlines_begun Loop n d e is h = let v = form_begun Loop n d e is h in record { more = v.more; value = v.value; holds = inr (inr (inr (inr v.holds))) }

    pub multis_begun : (k : InlineForm) (n : ℕ) (d e : Token) → among (form_word k) d ≡ true → among (form_seconds k) e ≡ true → Viable (reads_of Multis) (suc n) (d ∷ e ∷ [])
    multis_begun k n d e is h = let v = inlines_begun k n d e is h in record { more = v.more; value = v.value; holds = inr (inl v.holds) }

    pub events_begun : (k : InlineForm) (n : ℕ) (d e : Token) → among (form_word k) d ≡ true → among (form_seconds k) e ≡ true → Viable (reads_of Events) (suc n) (d ∷ e ∷ [])
    events_begun k n d e is h = let v = multis_begun k n d e is h in record { more = v.more; value = v.value; holds = inr (inr (inl v.holds)) }
