-- The laws and rules of events in columns, for all numbers of levels.
use Rattle.std.proofs.Common.{ℕ, zero, suc, ◌≡◌, ◌∙◌, ◌++◌, ◌⊎◌, ◌≤◌, ◌&&◌, ◌||◌, Bool, true, false, List, [], ◌∷◌, length, refl, sym, ap, inl, inr, not, subst, append-nil, Option, Some, None, Ok, Err, arith, codes}
use Rattle.msc_tokens.specs.declared.token.Token.{Token}
use Rattle.msc_tree.specs.Forms.{form_text}
use Rattle.msc_tree.specs.declared.reference.InlineForm.{InlineForm}
use Rattle.msc_tree.specs.declared.reference.InlineForm.TheVariants.{Alt, Opt, Par, Loop, Exc}
use Rattle.msc_tree.specs.Statements.{Item}
use Rattle.token_grammar.specs.Classes.{token_of}
use Rattle.token_grammar.specs.Languages.{Set, Read, Stop, among, apart, within, starts, second, just, word_at, map_at}
use Rattle.token_grammar.specs.Grammars.{Grammar, read_as, word}
use Rattle.token_grammar.specs.Rows.{rows_at}
use Rattle.token_grammar.proofs.Lists.{not_both}
use Rattle.token_grammar.proofs.Base.{Viable, opening_starts}
use Rattle.token_grammar.proofs.Flats.{Eats, eats_of, rule_by}
use Rattle.token_grammar.proofs.Levels.{reads_of, brink_of}
use Rattle.token_grammar.proofs.Optionals.{none, mapped, paired}
use Rattle.token_grammar.proofs.PartRules.{ends}
use Rattle.token_grammar.proofs.Rows.{Late, rows_law, rows_rule}
use Rattle.token_grammar.proofs.Rules.{Law, Rule, as_law, as_rule, equal_law, equal_rule}
use Rattle.msc_expression.specs.ExpressionReaders.{expression_at}
use Rattle.msc_document.specs.Inlines.{Tail, each, before}
use Rattle.msc_document.specs.DocumentGrammar.{column_event, column_operand}
use Rattle.msc_document.specs.DocumentReaders.{form_word, form_seconds, event_words, event_at, going_at, closer_word, closer_seconds, column_goes_on, column_at, column_tails_at, column_event_at}
use Rattle.msc_document.proofs.Continued.{nothing, whole_continued}
use Rattle.msc_document.proofs.ItemRules.{Events, TailLaws, TailRules, PartLaws, PartRules, shut_laws, inner_laws, shut_rules, inner_rules, events_law, events_rule, events_late, events_late_brink, events_begun, form_text_is, other_word}
use Rattle.msc_document.proofs.LineRules.{Flattened, upto_law, upto_rule}
use Rattle.msc_document.proofs.Lines.{grouped, next_state}
use Rattle.msc_events.specs.declared.orientation.Orientation.TheVariants as written

abbrev Held : ℕ → Grammar (List Item)
Held m = each (column_event m)

none_yet : (m : ℕ) → (xs : List Item) × (Held m).reads [] xs
none_yet m = ([], refl)

-- what begins an operand with its word, and what can't follow it
abbrev First : InlineForm → Set
First form = event_words ++ form_word form

abbrev Behind : InlineForm → List Item → Set
Behind form xs = form_seconds form

no_end : (form : InlineForm) (xs : List Item) → apart ends (Behind form xs) ≡ true
no_end Alt xs = refl
no_end Par xs = refl
no_end Opt xs = refl
no_end Exc xs = refl
no_end Loop xs = refl

no_closing : (form : InlineForm) (xs : List Item) → apart (just (codes "end")) (Behind form xs) ≡ true
no_closing Alt xs = refl
no_closing Par xs = refl
no_closing Opt xs = refl
no_closing Exc xs = refl
no_closing Loop xs = refl

abbrev ColumnEvents : ℕ → Grammar Item
ColumnEvents n = Events written.Column column_operand Held none_yet First Behind no_end no_closing n

events_are : (n : ℕ) → ColumnEvents n ≡ column_event n
unfolding column_event
events_are zero = refl
events_are (suc n) = refl

abbrev ColumnLaws : ℕ → Type 0
ColumnLaws n = TailLaws written.Column column_operand Held none_yet First Behind no_end no_closing n

abbrev ColumnRules : ℕ → (InlineForm → List Token → Read (Tail (List Item))) → Type 0
ColumnRules n p = TailRules written.Column column_operand Held none_yet First Behind no_end no_closing n p

abbrev ColumnParts : ℕ → Type 0
ColumnParts n = PartLaws written.Column column_operand Held none_yet First Behind no_end no_closing n

-- what an event begins with, where it opens a level too many
event_starts : (n : ℕ) (p : InlineForm → List Token → Read (Tail (List Item))) → ColumnRules n p → (x : List Token) → (ColumnEvents n).brink x → starts event_words x ≡ true
event_starts n p t x h =
    subst (λ l. starts event_words l ≡ true) (append-nil x)
    (opening_starts (reads_of ColumnEvents) (brink_of ColumnEvents) event_words none n (events_rule written.Column column_operand Held none_yet First Behind no_end no_closing n p t).known x h [])

and_first : (a b : Bool) → (a && b) ≡ true → a ≡ true
and_first true b g = refl
and_first false b g = cc

column_event_law : (n : ℕ) → ColumnLaws n → Law column_event n event_words none
column_event_law n t = equal_law events_are (events_law written.Column column_operand Held none_yet First Behind no_end no_closing n t)

column_event_rule : (n : ℕ) (p : InlineForm → List Token → Read (Tail (List Item))) → ColumnRules n p → Rule column_event n event_words none (event_at written.Column column_operand (expression_at n) p)
column_event_rule n p t = equal_rule events_are (events_rule written.Column column_operand Held none_yet First Behind no_end no_closing n p t)

-- ---- up to a word

abbrev Single : Type 0
Single = Unit {0}

abbrev one_kind : Item → Single
one_kind e = tt

abbrev unchanged : Item → List Item → Item
unchanged e more = e

abbrev Mix : Single → ℕ → Grammar (Item ⊎ Item)
Mix q m = read_as inl (column_event m)

abbrev Nothing : Single → ℕ → Grammar Item
Nothing q m = nothing

abbrev Words : Single → Set
Words q = event_words

module _ (closer : Option InlineForm) where
  abbrev W : Set
  W = closer_word (codes "endinstance") closer

  abbrev Seconds : Single → Set
  Seconds q = closer_seconds closer

  flattened : Flattened W one_kind unchanged column_event column_event Nothing Mix Words Seconds tt
  flattened = record {
    same_kind = λ a bs. refl;
    continued = λ m. whole_continued (column_event m);
    mixed = λ m. record {
      begin_in = λ q x a h. (a, h, refl);
      begin_out = λ q x a h. out m x a h;
      more_in = λ q x b h. absurd h;
      more_out = λ q x b h. absurd (no_more m x b h);
      begin_brink = λ q p h. h;
      more_brink = λ q p h. absurd h;
      brink_out = λ q p h. inl h;
    };
    none_first = λ m x b h. h;
    no_opening = λ m p h. h;
  }
    where
      out : (m : ℕ) (x : List Token) (a : Item) → (Mix tt m).reads x (inl a) → (column_event m).reads x a
      out m x a (b, h, e) = subst (λ (c : Item). (column_event m).reads x c) (sym (inl_same a b e)) h
        where
          inl_same : (a b : Item) → (let i : Item ⊎ Item = inl a in i) ≡ inl b → a ≡ b
          inl_same a b e = cc

      no_more : (m : ℕ) (x : List Token) (b : Item) → (Mix tt m).reads x (inr b) → ⊥
      no_more m x b (a, h, e) = cc

  -- an event that begins with the word has behind it what begins an inline expression
  late : (n : ℕ) → ColumnLaws n → Late W (next_state one_kind) Mix Words Seconds
  late n t q m x a h w = pick closer refl
    where
      e : (ColumnEvents m).reads x h.0
      e = subst (λ g. g.reads x h.0) (sym (events_are m)) h.1

      pick : (c : Option InlineForm) → closer ≡ c → second W (closer_seconds closer) x ≡ true
      pick None same = other_word event_words W (closer_seconds closer) x (subst (λ (o : Option InlineForm). apart event_words (closer_word (codes "endinstance") o) ≡ true) (sym same) refl)
          ((events_law written.Column column_operand Held none_yet First Behind no_end no_closing n t).laws.begins m x h.0 e) w
      pick (Some form) same =
          subst (λ (o : Option InlineForm). second (closer_word (codes "endinstance") o) (closer_seconds o) x ≡ true) (sym same)
          (events_late written.Column column_operand Held none_yet First Behind no_end no_closing form n m t x h.0 e (subst (λ (o : Option InlineForm). starts (closer_word (codes "endinstance") o) x ≡ true) same w))

  late_brink : (n : ℕ) (p : InlineForm → List Token → Read (Tail (List Item))) → ColumnRules n p → (q : Single) (x : List Token) → (Mix q n).brink x → starts W x ≡ true → second W (closer_seconds closer) x ≡ true
  late_brink n p t q x h w = pick closer refl
    where
      e : (ColumnEvents n).brink x
      e = subst (λ g. g.brink x) (sym (events_are n)) h

      pick : (c : Option InlineForm) → closer ≡ c → second W (closer_seconds closer) x ≡ true
      pick None same = other_word event_words W (closer_seconds closer) x (subst (λ (o : Option InlineForm). apart event_words (closer_word (codes "endinstance") o) ≡ true) (sym same) refl)
          (event_starts n p t x e) w
      pick (Some form) same =
          subst (λ (o : Option InlineForm). second (closer_word (codes "endinstance") o) (closer_seconds o) x ≡ true) (sym same)
          (events_late_brink written.Column column_operand Held none_yet First Behind no_end no_closing form n p t x e (subst (λ (o : Option InlineForm). starts (closer_word (codes "endinstance") o) x ≡ true) same w))

  begun : (n : ℕ) → ((m : ℕ) → ColumnParts m) → (q : Single) (d e : Token) → among event_words d ≡ true → among W d ≡ true → among (closer_seconds closer) e ≡ true → Viable (reads_of (Mix q)) (suc n) (d ∷ e ∷ [])
  begun n laws q d e f w s = pick closer refl
    where
      pick : (c : Option InlineForm) → closer ≡ c → Viable (reads_of (Mix q)) (suc n) (d ∷ e ∷ [])
      pick None same = absurd (not_both (sym (subst (λ (o : Option InlineForm). among (closer_seconds o) e ≡ true) same s)))
      pick (Some form) same =
          let v = events_begun written.Column column_operand Held none_yet First Behind no_end no_closing laws form n d e (subst (λ (o : Option InlineForm). among (closer_word (codes "endinstance") o) d ≡ true) same w)
          (subst (λ (o : Option InlineForm). among (closer_seconds o) e ≡ true) same s) in
          record { more = v.more; value = inl v.value; holds = (v.value, subst (λ g. g.reads (d ∷ e ∷ v.more) v.value) (events_are (suc n)) v.holds, refl) }

  able : (q : Single) → (within W event_words ≡ true) ⊎ (closer_seconds closer ≡ [])
  able q = pick closer refl
    where
      forms : (form : InlineForm) → within (form_word form) event_words ≡ true
      forms Alt = refl
      forms Par = refl
      forms Opt = refl
      forms Exc = refl
      forms Loop = refl

      pick : (c : Option InlineForm) → closer ≡ c → (within W event_words ≡ true) ⊎ (closer_seconds closer ≡ [])
      pick None same = inr (ap closer_seconds same)
      pick (Some form) same = inl (subst (λ (o : Option InlineForm). within (closer_word (codes "endinstance") o) event_words ≡ true) (sym same) (forms form))

  some_text : (text : List ℕ) × (among W (token_of text) ≡ true)
  some_text = pick closer refl
    where
      pick : (c : Option InlineForm) → closer ≡ c → (text : List ℕ) × (among W (token_of text) ≡ true)
      pick None same = (codes "endinstance", subst (λ (o : Option InlineForm). among (closer_word (codes "endinstance") o) (token_of (codes "endinstance")) ≡ true) (sym same) refl)
      pick (Some form) same = (form_text form, subst (λ (o : Option InlineForm). among (closer_word (codes "endinstance") o) (token_of (form_text form)) ≡ true) (sym same) (form_text_is form))

  -- ---- one loop reads the events

  module _ (e : List Token → Read Item) (eats : Eats event_words e) where
    abbrev rows_here : ℕ → List Token → Read (List Item)
    rows_here k ts = mapped (λ (x : List (Item ⊎ Item) × Token). (grouped unchanged x.0).1) (rows_at W (next_state one_kind) Words Seconds (λ q. map_at inl e) k tt ts)

    abbrev loop_here : ℕ → List Token → Read (List Item)
    loop_here k ts = mapped (λ (x : List Item × Token). x.0) (paired (going_at (column_goes_on closer) e k ts) (word_at W))

    abbrev of_rows : Read (List (Item ⊎ Item) × Token) → Read (List Item)
    of_rows r = mapped (λ (x : List (Item ⊎ Item) × Token). (grouped unchanged x.0).1) r

    abbrev of_loop : Read (List Item × Token) → Read (List Item)
    of_loop r = mapped (λ (x : List Item × Token). x.0) r

    one_in_front : (a : Item) (x : Read (List (Item ⊎ Item) × Token)) (y : Read (List Item × Token)) → of_rows x ≡ of_loop y
        → of_rows (mapped (λ (p : List (Item ⊎ Item) × Token). (inl a ∷ p.0, p.1)) x) ≡ of_loop (mapped (λ (p : List Item × Token). (a ∷ p.0, p.1)) y)
    one_in_front a (Ok x) (Ok y) h = ap (λ (r : Read (List Item)). mapped (λ l. a ∷ l) r) h
    one_in_front a (Ok x) (Err s) h = cc
    one_in_front a (Err r) (Ok y) h = cc
    one_in_front a (Err r) (Err s) h = turn r s h
      where
        turn : (r s : Stop) → of_rows (Err r) ≡ of_loop (Err s) → of_rows (Err r) ≡ of_loop (Err s)
        turn r s h = h

    abbrev with_token : List Item → Token → List Item × Token
    with_token z t = (z, t)

    word_in_front : (a : Item) (z : List Item) (r : Read Token) → mapped (with_token (a ∷ z)) r ≡ mapped (λ (p : List Item × Token). (a ∷ p.0, p.1)) (mapped (with_token z) r)
    word_in_front a z (Ok y) = refl
    word_in_front a z (Err s) = refl

    rest_in_front : (a : Item) (x : Read (List Item)) → paired (mapped (λ (l : List Item). a ∷ l) x) (word_at W) ≡ mapped (λ (p : List Item × Token). (a ∷ p.0, p.1)) (paired x (word_at W))
    rest_in_front a (Ok z) = word_in_front a z.0 (word_at W z.1)
    rest_in_front a (Err s) = refl

    abbrev no_rows : Token → List (Item ⊎ Item) × Token
    no_rows t = ([], t)

    no_events : (r : Read Token) → of_rows (mapped no_rows r) ≡ of_loop (mapped (with_token []) r)
    no_events (Ok c) = refl
    no_events (Err s) = refl

    first : (us : List Token) → column_goes_on closer us ≡ true → starts event_words us ≡ true
    first [] g = cc
    first (u ∷ us) g = and_first (among event_words u) (not (among W u) || starts (closer_seconds closer) us) g

    one_step : (k : ℕ) (ts : List Token) → ((x : Item × List Token) → starts event_words ts ≡ true → e ts ≡ Ok x → rows_here k x.1 ≡ loop_here k x.1) → (b : Bool) → column_goes_on closer ts ≡ b → (x : Read Item) → e ts ≡ x
        → rows_here (suc k) ts ≡ loop_here (suc k) ts
    one_step k ts more false g x q = rw g (no_events (word_at W ts))
    one_step k ts more true g (Err s) q = rw (g, q) refl
    one_step k ts more true g (Ok x) q = rw (g, q) (one_in_front x.0 (rows_at W (next_state one_kind) Words Seconds (λ q. map_at inl e) k tt x.1) (paired (going_at (column_goes_on closer) e k x.1) (word_at W))
        (more x (first ts g) q) ∙ ap of_loop (sym (rest_in_front x.0 (going_at (column_goes_on closer) e k x.1))))

    same_loop : (k : ℕ) (ts : List Token) → length ts ≤ k → rows_here k ts ≡ loop_here k ts
    same_loop zero [] h = refl
    same_loop zero (t ∷ ts) h = absurd (omega arith)
    same_loop (suc k) ts h = one_step k ts (λ x f q. same_loop k x.1 (let l = eats ts x f q in omega (arith, l))) (column_goes_on closer ts) refl (e ts) refl

  -- ---- the law and the rule of the events with the word behind them

  column_mix_law : (n : ℕ) → ColumnLaws n → (q : Single) → Law (Mix q) n event_words none
  column_mix_law n t q = as_law inl none (column_event_law n t) (λ a. refl)

  upto_column_law : (n : ℕ) → ColumnLaws n → Law (λ m. before (Held m) (word W)) n (event_words ++ W) (λ xs. closer_seconds closer)
  upto_column_law n t = upto_law W one_kind unchanged column_event column_event Nothing Mix Words Seconds tt flattened n
      (rows_law W (next_state one_kind) Mix Words Seconds n (late n t) (column_mix_law n t) tt)

  upto_column_rule : (n : ℕ) → ((m : ℕ) → ColumnLaws m) → ((m : ℕ) → ColumnParts m) → (p : InlineForm → List Token → Read (Tail (List Item))) → ColumnRules n p
      → Rule (λ m. before (Held m) (word W)) n (event_words ++ W) (λ xs. closer_seconds closer) (column_at closer (event_at written.Column column_operand (expression_at n) p))
  upto_column_rule n laws parts p t =
      let e = column_event_rule n p t in
      rule_by (λ m. before (Held m) (word W)) n (event_words ++ W) (λ xs. closer_seconds closer) (λ ts. rows_here (event_at written.Column column_operand (expression_at n) p) (eats_of column_event n event_words none (event_at written.Column column_operand (expression_at n) p) e event_words) (length ts) ts) (column_at closer (event_at written.Column column_operand (expression_at n) p))
      (λ ts. same_loop (event_at written.Column column_operand (expression_at n) p) (eats_of column_event n event_words none (event_at written.Column column_operand (expression_at n) p) e event_words) (length ts) ts (omega arith))
      (upto_rule W one_kind unchanged column_event column_event Nothing Mix Words Seconds tt flattened n
      (rows_rule W (next_state one_kind) Mix Words Seconds n (late n (laws n)) (late_brink n p t) some_text.0 some_text.1 (begun n parts) able (λ q. map_at inl (event_at written.Column column_operand (expression_at n) p)) (λ q. as_rule inl none e (λ a. refl)) tt))

-- ---- all numbers of levels

column_part_laws : (n : ℕ) → ColumnLaws n → ColumnParts n
column_part_laws n t k = upto_column_law (Some k) n t

column_laws : (n : ℕ) → ColumnLaws n
column_laws zero = shut_laws written.Column column_operand Held none_yet First Behind no_end no_closing
column_laws (suc n) = inner_laws written.Column column_operand Held none_yet First Behind no_end no_closing n (column_part_laws n (column_laws n))

column_parts : (n : ℕ) → ColumnParts n
column_parts n = column_part_laws n (column_laws n)

column_part_rules : (n : ℕ) (p : InlineForm → List Token → Read (Tail (List Item))) → ColumnRules n p
    → PartRules written.Column column_operand Held none_yet First Behind no_end no_closing n (λ k. column_at (Some k) (event_at written.Column column_operand (expression_at n) p))
column_part_rules n p t k = upto_column_rule (Some k) n column_laws column_parts p t

column_rules : (n : ℕ) → ColumnRules n (column_tails_at n)
unfolding column_tails_at
column_rules zero = shut_rules written.Column column_operand Held none_yet First Behind no_end no_closing column_parts
column_rules (suc n) = inner_rules written.Column column_operand Held none_yet First Behind no_end no_closing n (λ k. column_at (Some k) (column_event_at n)) (column_part_rules n (column_tails_at n) (column_rules n))

-- a column of a chart with the word behind it
pub column_law : (n : ℕ) → Law (λ m. before (Held m) (word (just (codes "endinstance")))) n (event_words ++ just (codes "endinstance")) none
column_law n = upto_column_law None n (column_laws n)

pub column_rule : (n : ℕ) → Rule (λ m. before (Held m) (word (just (codes "endinstance")))) n (event_words ++ just (codes "endinstance")) none (column_at None (column_event_at n))
column_rule n = upto_column_rule None n column_laws column_parts (column_tails_at n) (column_rules n)

pub column_events_law : (n : ℕ) → Law column_event n event_words none
column_events_law n = column_event_law n (column_laws n)

pub column_events_rule : (n : ℕ) → Rule column_event n event_words none (column_event_at n)
column_events_rule n = column_event_rule n (column_tails_at n) (column_rules n)
