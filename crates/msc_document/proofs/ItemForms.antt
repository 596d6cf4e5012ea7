-- The readers of items in the form that the code has are those of the productions.
use Rattle.std.proofs.Common.{ℕ, zero, suc, ◌≡◌, ◌∙◌, Bool, true, false, cond, List, [], ◌∷◌, length, map, refl, sym, ap, Some, None, Ok, Err, codes}
use Rattle.msc_tokens.specs.declared.token.Token.{Token}
use Rattle.msc_tree.specs.declared.reference.InlineForm.{InlineForm}
use Rattle.msc_tree.specs.declared.reference.InlineForm.TheVariants.{Alt, Opt, Par, Loop, Exc}
use Rattle.msc_tree.specs.Statements.{Operand}
use Rattle.token_grammar.specs.Languages.{Set, Read, among, starts, refused, just, opens_at, map_at, word_at}
use Rattle.token_grammar.specs.PartReaders.{placed_at}
use Rattle.token_grammar.proofs.Optionals.{mapped, paired}
use Rattle.msc_events.specs.EventReaders.{single_words}
use Rattle.msc_expression.specs.Bounds.{loop_bounds_at}
use Rattle.msc_expression.specs.declared.bounds.Bounds.{Bounds}
use Rattle.msc_expression.specs.ExpressionReaders.{expression_at}
use Rattle.msc_expression.proofs.Forms.{none_left, one_more_level}
use Rattle.msc_document.specs.Inlines.{Naming, Tail, taken_once, inline_item}
use Rattle.msc_document.specs.DocumentGrammar.{column_operand, outside_operand}
use Rattle.msc_document.specs.DocumentReaders.{form_word, form_words, multi_words, single_item_at, coregion_item_at, stop_item_at, condition_item_at, reference_item_at, body_at, form_at, inline_at, multi_at, event_at, column_at, column_tails_at, column_event_at, outside_at, outside_tails_at}
use Rattle.msc_document.specs.ItemReaders.{operand_at, inline_body_at, level_at, inline_tail_at, item_of, inline_form_at, inline_item_at, multi_item_at, event_item_at}
use Rattle.msc_document.proofs.OperandMaps.{body_map}
use Rattle.msc_events.specs.declared.orientation.Orientation.TheVariants as written

module _ {A : Type 0} (g : A → Operand) where
  abbrev in_body : Naming × List A → Naming × List Operand
  in_body x = (x.0, map g x.1)

  abbrev in_tail : Tail A → Tail Operand
  in_tail t = (t.0, (t.1.0, map g t.1.1))

  -- ---- behind `begin`

  opened_same : (s : Set) (q : List Token → Read (Naming × List Operand)) (p : List Token → Read (Naming × List A)) → ((ts : List Token) → q ts ≡ mapped in_body (p ts)) → (ts : List Token)
      → opens_at s (Some q) ts ≡ mapped in_body (opens_at s (Some p) ts)
  opened_same s q p same [] = refl
  opened_same s q p same (t ∷ ts) = pick (among s t)
    where
      pick : (b : Bool) → cond b (q ts) (Err (refused (length (t ∷ ts)))) ≡ mapped in_body (cond b (p ts) (Err (refused (length (t ∷ ts)))))
      pick true = same ts
      pick false = refl

  shut_same : (s : Set) (ts : List Token) → (let r : Read (Naming × List Operand) = opens_at s None ts in r) ≡ mapped in_body (opens_at s None ts)
  shut_same s [] = refl
  shut_same s (t ∷ ts) = refl

  -- ---- behind the word of a form

  once_same : (x : Read (Naming × List A)) → mapped taken_once (mapped in_body x) ≡ mapped in_tail (mapped taken_once x)
  once_same (Ok x) = refl
  once_same (Err e) = refl

  bounds_same : (q : List Token → Read (Naming × List Operand)) (p : List Token → Read (Naming × List A)) → ((ts : List Token) → q ts ≡ mapped in_body (p ts)) → (x : Read Bounds)
      → paired x q ≡ mapped in_tail (paired x p)
  bounds_same q p same (Ok x) = ap (λ r. mapped (λ (b : Naming × List Operand). (x.0, b)) r) (same x.1) ∙ last (p x.1)
    where
      last : (r : Read (Naming × List A)) → mapped (λ (b : Naming × List Operand). (x.0, b)) (mapped in_body r) ≡ mapped in_tail (mapped (λ (b : Naming × List A). (x.0, b)) r)
      last (Ok z) = refl
      last (Err e) = refl
  bounds_same q p same (Err e) = refl

  -- ---- the item

  tail_of_word : (form : InlineForm) (x : Read Token) (q : List Token → Read (Tail Operand)) (p : List Token → Read (Tail A)) → ((ts : List Token) → q ts ≡ mapped in_tail (p ts))
      → mapped (item_of form) (mapped (λ (y : Token × Tail Operand). (y.0.place, y.1)) (paired x q)) ≡ mapped (inline_item g form) (mapped (λ (y : Token × Tail A). (y.0.place, y.1)) (paired x p))
  tail_of_word form (Ok x) q p same = ap (λ r. mapped (item_of form) (mapped (λ (y : Token × Tail Operand). (y.0.place, y.1)) (mapped (λ (b : Tail Operand). (x.0, b)) r))) (same x.1) ∙ last (p x.1)
    where
      last : (r : Read (Tail A)) → mapped (item_of form) (mapped (λ (y : Token × Tail Operand). (y.0.place, y.1)) (mapped (λ (b : Tail Operand). (x.0, b)) (mapped in_tail r)))
          ≡ mapped (inline_item g form) (mapped (λ (y : Token × Tail A). (y.0.place, y.1)) (mapped (λ (b : Tail A). (x.0, b)) r))
      last (Ok z) = refl
      last (Err e) = refl
  tail_of_word form (Err e) q p same = refl

  form_same : (form : InlineForm) (q : List Token → Read (Tail Operand)) (p : List Token → Read (Tail A)) → ((ts : List Token) → q ts ≡ mapped in_tail (p ts)) → (ts : List Token)
      → map_at (item_of form) (placed_at (form_word form) q) ts ≡ form_at g form p ts
  form_same form q p same ts = tail_of_word form (word_at (form_word form) ts) q p same

either_same : {A : Type 0} (b : Bool) (p q r t : Read A) → p ≡ r → q ≡ t → cond b p q ≡ cond b r t
either_same true p q r t e f = e
either_same false p q r t e f = f

-- ---- in a column

column_tails : (n : ℕ) (form : InlineForm) (ts : List Token) → inline_tail_at written.Column form n ts ≡ mapped (in_tail column_operand) (column_tails_at n form ts)
unfolding column_tails_at
column_tails zero Alt ts = ap (mapped taken_once) (sym (none_left (just (codes "begin")) (inline_body_at written.Column Alt) ts) ∙ shut_same column_operand (just (codes "begin")) ts) ∙ once_same column_operand (opens_at (just (codes "begin")) None ts)
column_tails zero Par ts = ap (mapped taken_once) (sym (none_left (just (codes "begin")) (inline_body_at written.Column Par) ts) ∙ shut_same column_operand (just (codes "begin")) ts) ∙ once_same column_operand (opens_at (just (codes "begin")) None ts)
column_tails zero Opt ts = ap (mapped taken_once) (sym (none_left (just (codes "begin")) (inline_body_at written.Column Opt) ts) ∙ shut_same column_operand (just (codes "begin")) ts) ∙ once_same column_operand (opens_at (just (codes "begin")) None ts)
column_tails zero Exc ts = ap (mapped taken_once) (sym (none_left (just (codes "begin")) (inline_body_at written.Column Exc) ts) ∙ shut_same column_operand (just (codes "begin")) ts) ∙ once_same column_operand (opens_at (just (codes "begin")) None ts)
column_tails zero Loop ts = bounds_same column_operand (level_at written.Column Loop zero) (opens_at (just (codes "begin")) None) (λ us. sym (none_left (just (codes "begin")) (inline_body_at written.Column Loop) us) ∙ shut_same column_operand (just (codes "begin")) us) (loop_bounds_at ts)
column_tails (suc n) Alt ts = ap (mapped taken_once) (sym (one_more_level (just (codes "begin")) (inline_body_at written.Column Alt) n ts) ∙ opened_same column_operand (just (codes "begin")) (inline_body_at written.Column Alt n) (body_at written.Column Alt (column_at (Some Alt) (column_event_at n))) (body_map column_operand (operand_at written.Column Alt n) (column_at (Some Alt) (column_event_at n)) (λ vs. refl) written.Column Alt) ts) ∙ once_same column_operand (opens_at (just (codes "begin")) (Some (body_at written.Column Alt (column_at (Some Alt) (column_event_at n)))) ts)
column_tails (suc n) Par ts = ap (mapped taken_once) (sym (one_more_level (just (codes "begin")) (inline_body_at written.Column Par) n ts) ∙ opened_same column_operand (just (codes "begin")) (inline_body_at written.Column Par n) (body_at written.Column Par (column_at (Some Par) (column_event_at n))) (body_map column_operand (operand_at written.Column Par n) (column_at (Some Par) (column_event_at n)) (λ vs. refl) written.Column Par) ts) ∙ once_same column_operand (opens_at (just (codes "begin")) (Some (body_at written.Column Par (column_at (Some Par) (column_event_at n)))) ts)
column_tails (suc n) Opt ts = ap (mapped taken_once) (sym (one_more_level (just (codes "begin")) (inline_body_at written.Column Opt) n ts) ∙ opened_same column_operand (just (codes "begin")) (inline_body_at written.Column Opt n) (body_at written.Column Opt (column_at (Some Opt) (column_event_at n))) (body_map column_operand (operand_at written.Column Opt n) (column_at (Some Opt) (column_event_at n)) (λ vs. refl) written.Column Opt) ts) ∙ once_same column_operand (opens_at (just (codes "begin")) (Some (body_at written.Column Opt (column_at (Some Opt) (column_event_at n)))) ts)
column_tails (suc n) Exc ts = ap (mapped taken_once) (sym (one_more_level (just (codes "begin")) (inline_body_at written.Column Exc) n ts) ∙ opened_same column_operand (just (codes "begin")) (inline_body_at written.Column Exc n) (body_at written.Column Exc (column_at (Some Exc) (column_event_at n))) (body_map column_operand (operand_at written.Column Exc n) (column_at (Some Exc) (column_event_at n)) (λ vs. refl) written.Column Exc) ts) ∙ once_same column_operand (opens_at (just (codes "begin")) (Some (body_at written.Column Exc (column_at (Some Exc) (column_event_at n)))) ts)
column_tails (suc n) Loop ts = bounds_same column_operand (level_at written.Column Loop (suc n)) (opens_at (just (codes "begin")) (Some (body_at written.Column Loop (column_at (Some Loop) (column_event_at n))))) (λ us. sym (one_more_level (just (codes "begin")) (inline_body_at written.Column Loop) n us) ∙ opened_same column_operand (just (codes "begin")) (inline_body_at written.Column Loop n) (body_at written.Column Loop (column_at (Some Loop) (column_event_at n))) (body_map column_operand (operand_at written.Column Loop n) (column_at (Some Loop) (column_event_at n)) (λ vs. refl) written.Column Loop) us) (loop_bounds_at ts)

column_inline_is : (n : ℕ) (ts : List Token) → inline_item_at written.Column n ts ≡ inline_at column_operand (column_tails_at n) ts
column_inline_is n ts = either_same (starts (form_word Alt) ts) (inline_form_at written.Column Alt n ts) (cond (starts (form_word Par) ts) (inline_form_at written.Column Par n ts) (cond (starts (form_word Opt) ts) (inline_form_at written.Column Opt n ts) (cond (starts (form_word Exc) ts) (inline_form_at written.Column Exc n ts) (inline_form_at written.Column Loop n ts)))) (form_at column_operand Alt (column_tails_at n Alt) ts) (cond (starts (form_word Par) ts) (form_at column_operand Par (column_tails_at n Par) ts) (cond (starts (form_word Opt) ts) (form_at column_operand Opt (column_tails_at n Opt) ts) (cond (starts (form_word Exc) ts) (form_at column_operand Exc (column_tails_at n Exc) ts) (form_at column_operand Loop (column_tails_at n Loop) ts)))) (form_same column_operand Alt (inline_tail_at written.Column Alt n) (column_tails_at n Alt) (column_tails n Alt) ts) (either_same (starts (form_word Par) ts) (inline_form_at written.Column Par n ts) (cond (starts (form_word Opt) ts) (inline_form_at written.Column Opt n ts) (cond (starts (form_word Exc) ts) (inline_form_at written.Column Exc n ts) (inline_form_at written.Column Loop n ts))) (form_at column_operand Par (column_tails_at n Par) ts) (cond (starts (form_word Opt) ts) (form_at column_operand Opt (column_tails_at n Opt) ts) (cond (starts (form_word Exc) ts) (form_at column_operand Exc (column_tails_at n Exc) ts) (form_at column_operand Loop (column_tails_at n Loop) ts))) (form_same column_operand Par (inline_tail_at written.Column Par n) (column_tails_at n Par) (column_tails n Par) ts) (either_same (starts (form_word Opt) ts) (inline_form_at written.Column Opt n ts) (cond (starts (form_word Exc) ts) (inline_form_at written.Column Exc n ts) (inline_form_at written.Column Loop n ts)) (form_at column_operand Opt (column_tails_at n Opt) ts) (cond (starts (form_word Exc) ts) (form_at column_operand Exc (column_tails_at n Exc) ts) (form_at column_operand Loop (column_tails_at n Loop) ts)) (form_same column_operand Opt (inline_tail_at written.Column Opt n) (column_tails_at n Opt) (column_tails n Opt) ts) (either_same (starts (form_word Exc) ts) (inline_form_at written.Column Exc n ts) (inline_form_at written.Column Loop n ts) (form_at column_operand Exc (column_tails_at n Exc) ts) (form_at column_operand Loop (column_tails_at n Loop) ts) (form_same column_operand Exc (inline_tail_at written.Column Exc n) (column_tails_at n Exc) (column_tails n Exc) ts) (form_same column_operand Loop (inline_tail_at written.Column Loop n) (column_tails_at n Loop) (column_tails n Loop) ts))))

pub column_multi_is : (n : ℕ) (ts : List Token) → multi_item_at written.Column n ts ≡ multi_at written.Column column_operand (expression_at n) (column_tails_at n) ts
column_multi_is n ts = ap (λ r. cond (starts (just (codes "condition")) ts) (condition_item_at written.Column ts) (cond (starts form_words ts) r (reference_item_at written.Column (expression_at n) ts))) (column_inline_is n ts)

pub column_event_is : (n : ℕ) (ts : List Token) → event_item_at written.Column n ts ≡ event_at written.Column column_operand (expression_at n) (column_tails_at n) ts
column_event_is n ts = ap (λ r. cond (starts single_words ts) (single_item_at ts) (cond (starts (just (codes "concurrent")) ts) (coregion_item_at ts) (cond (starts multi_words ts) r (stop_item_at ts)))) (column_multi_is n ts)

-- ---- elsewhere

outside_tails : (n : ℕ) (form : InlineForm) (ts : List Token) → inline_tail_at written.Covered form n ts ≡ mapped (in_tail outside_operand) (outside_tails_at n form ts)
unfolding outside_tails_at
outside_tails zero Alt ts = ap (mapped taken_once) (sym (none_left (just (codes "begin")) (inline_body_at written.Covered Alt) ts) ∙ shut_same outside_operand (just (codes "begin")) ts) ∙ once_same outside_operand (opens_at (just (codes "begin")) None ts)
outside_tails zero Par ts = ap (mapped taken_once) (sym (none_left (just (codes "begin")) (inline_body_at written.Covered Par) ts) ∙ shut_same outside_operand (just (codes "begin")) ts) ∙ once_same outside_operand (opens_at (just (codes "begin")) None ts)
outside_tails zero Opt ts = ap (mapped taken_once) (sym (none_left (just (codes "begin")) (inline_body_at written.Covered Opt) ts) ∙ shut_same outside_operand (just (codes "begin")) ts) ∙ once_same outside_operand (opens_at (just (codes "begin")) None ts)
outside_tails zero Exc ts = ap (mapped taken_once) (sym (none_left (just (codes "begin")) (inline_body_at written.Covered Exc) ts) ∙ shut_same outside_operand (just (codes "begin")) ts) ∙ once_same outside_operand (opens_at (just (codes "begin")) None ts)
outside_tails zero Loop ts = bounds_same outside_operand (level_at written.Covered Loop zero) (opens_at (just (codes "begin")) None) (λ us. sym (none_left (just (codes "begin")) (inline_body_at written.Covered Loop) us) ∙ shut_same outside_operand (just (codes "begin")) us) (loop_bounds_at ts)
outside_tails (suc n) Alt ts = ap (mapped taken_once) (sym (one_more_level (just (codes "begin")) (inline_body_at written.Covered Alt) n ts) ∙ opened_same outside_operand (just (codes "begin")) (inline_body_at written.Covered Alt n) (body_at written.Covered Alt (outside_at Alt n (outside_tails_at n))) (body_map outside_operand (operand_at written.Covered Alt n) (outside_at Alt n (outside_tails_at n)) (λ vs. refl) written.Covered Alt) ts) ∙ once_same outside_operand (opens_at (just (codes "begin")) (Some (body_at written.Covered Alt (outside_at Alt n (outside_tails_at n)))) ts)
outside_tails (suc n) Par ts = ap (mapped taken_once) (sym (one_more_level (just (codes "begin")) (inline_body_at written.Covered Par) n ts) ∙ opened_same outside_operand (just (codes "begin")) (inline_body_at written.Covered Par n) (body_at written.Covered Par (outside_at Par n (outside_tails_at n))) (body_map outside_operand (operand_at written.Covered Par n) (outside_at Par n (outside_tails_at n)) (λ vs. refl) written.Covered Par) ts) ∙ once_same outside_operand (opens_at (just (codes "begin")) (Some (body_at written.Covered Par (outside_at Par n (outside_tails_at n)))) ts)
outside_tails (suc n) Opt ts = ap (mapped taken_once) (sym (one_more_level (just (codes "begin")) (inline_body_at written.Covered Opt) n ts) ∙ opened_same outside_operand (just (codes "begin")) (inline_body_at written.Covered Opt n) (body_at written.Covered Opt (outside_at Opt n (outside_tails_at n))) (body_map outside_operand (operand_at written.Covered Opt n) (outside_at Opt n (outside_tails_at n)) (λ vs. refl) written.Covered Opt) ts) ∙ once_same outside_operand (opens_at (just (codes "begin")) (Some (body_at written.Covered Opt (outside_at Opt n (outside_tails_at n)))) ts)
outside_tails (suc n) Exc ts = ap (mapped taken_once) (sym (one_more_level (just (codes "begin")) (inline_body_at written.Covered Exc) n ts) ∙ opened_same outside_operand (just (codes "begin")) (inline_body_at written.Covered Exc n) (body_at written.Covered Exc (outside_at Exc n (outside_tails_at n))) (body_map outside_operand (operand_at written.Covered Exc n) (outside_at Exc n (outside_tails_at n)) (λ vs. refl) written.Covered Exc) ts) ∙ once_same outside_operand (opens_at (just (codes "begin")) (Some (body_at written.Covered Exc (outside_at Exc n (outside_tails_at n)))) ts)
outside_tails (suc n) Loop ts = bounds_same outside_operand (level_at written.Covered Loop (suc n)) (opens_at (just (codes "begin")) (Some (body_at written.Covered Loop (outside_at Loop n (outside_tails_at n))))) (λ us. sym (one_more_level (just (codes "begin")) (inline_body_at written.Covered Loop) n us) ∙ opened_same outside_operand (just (codes "begin")) (inline_body_at written.Covered Loop n) (body_at written.Covered Loop (outside_at Loop n (outside_tails_at n))) (body_map outside_operand (operand_at written.Covered Loop n) (outside_at Loop n (outside_tails_at n)) (λ vs. refl) written.Covered Loop) us) (loop_bounds_at ts)

outside_inline_is : (n : ℕ) (ts : List Token) → inline_item_at written.Covered n ts ≡ inline_at outside_operand (outside_tails_at n) ts
outside_inline_is n ts = either_same (starts (form_word Alt) ts) (inline_form_at written.Covered Alt n ts) (cond (starts (form_word Par) ts) (inline_form_at written.Covered Par n ts) (cond (starts (form_word Opt) ts) (inline_form_at written.Covered Opt n ts) (cond (starts (form_word Exc) ts) (inline_form_at written.Covered Exc n ts) (inline_form_at written.Covered Loop n ts)))) (form_at outside_operand Alt (outside_tails_at n Alt) ts) (cond (starts (form_word Par) ts) (form_at outside_operand Par (outside_tails_at n Par) ts) (cond (starts (form_word Opt) ts) (form_at outside_operand Opt (outside_tails_at n Opt) ts) (cond (starts (form_word Exc) ts) (form_at outside_operand Exc (outside_tails_at n Exc) ts) (form_at outside_operand Loop (outside_tails_at n Loop) ts)))) (form_same outside_operand Alt (inline_tail_at written.Covered Alt n) (outside_tails_at n Alt) (outside_tails n Alt) ts) (either_same (starts (form_word Par) ts) (inline_form_at written.Covered Par n ts) (cond (starts (form_word Opt) ts) (inline_form_at written.Covered Opt n ts) (cond (starts (form_word Exc) ts) (inline_form_at written.Covered Exc n ts) (inline_form_at written.Covered Loop n ts))) (form_at outside_operand Par (outside_tails_at n Par) ts) (cond (starts (form_word Opt) ts) (form_at outside_operand Opt (outside_tails_at n Opt) ts) (cond (starts (form_word Exc) ts) (form_at outside_operand Exc (outside_tails_at n Exc) ts) (form_at outside_operand Loop (outside_tails_at n Loop) ts))) (form_same outside_operand Par (inline_tail_at written.Covered Par n) (outside_tails_at n Par) (outside_tails n Par) ts) (either_same (starts (form_word Opt) ts) (inline_form_at written.Covered Opt n ts) (cond (starts (form_word Exc) ts) (inline_form_at written.Covered Exc n ts) (inline_form_at written.Covered Loop n ts)) (form_at outside_operand Opt (outside_tails_at n Opt) ts) (cond (starts (form_word Exc) ts) (form_at outside_operand Exc (outside_tails_at n Exc) ts) (form_at outside_operand Loop (outside_tails_at n Loop) ts)) (form_same outside_operand Opt (inline_tail_at written.Covered Opt n) (outside_tails_at n Opt) (outside_tails n Opt) ts) (either_same (starts (form_word Exc) ts) (inline_form_at written.Covered Exc n ts) (inline_form_at written.Covered Loop n ts) (form_at outside_operand Exc (outside_tails_at n Exc) ts) (form_at outside_operand Loop (outside_tails_at n Loop) ts) (form_same outside_operand Exc (inline_tail_at written.Covered Exc n) (outside_tails_at n Exc) (outside_tails n Exc) ts) (form_same outside_operand Loop (inline_tail_at written.Covered Loop n) (outside_tails_at n Loop) (outside_tails n Loop) ts))))

pub outside_multi_is : (n : ℕ) (ts : List Token) → multi_item_at written.Covered n ts ≡ multi_at written.Covered outside_operand (expression_at n) (outside_tails_at n) ts
outside_multi_is n ts = ap (λ r. cond (starts (just (codes "condition")) ts) (condition_item_at written.Covered ts) (cond (starts form_words ts) r (reference_item_at written.Covered (expression_at n) ts))) (outside_inline_is n ts)

pub outside_event_is : (n : ℕ) (ts : List Token) → event_item_at written.Covered n ts ≡ event_at written.Covered outside_operand (expression_at n) (outside_tails_at n) ts
outside_event_is n ts = ap (λ r. cond (starts single_words ts) (single_item_at ts) (cond (starts (just (codes "concurrent")) ts) (coregion_item_at ts) (cond (starts multi_words ts) r (stop_item_at ts)))) (outside_multi_is n ts)
