-- The laws and rules of statements outside columns, for all numbers of levels.
use Rattle.std.proofs.Common.{ℕ, zero, suc, ◌≡◌, ◌∙◌, ◌++◌, ◌⊎◌, true, List, [], ◌∷◌, length, refl, sym, ap, inl, inr, subst, append-nil, Option, Some, None, Ok, Err, arith, codes}
use Rattle.msc_tokens.specs.declared.token.Token.{Token}
use Rattle.msc_tree.specs.Forms.{form_text}
use Rattle.msc_tree.specs.declared.reference.InlineForm.{InlineForm}
use Rattle.msc_tree.specs.declared.reference.InlineForm.TheVariants.{Alt, Opt, Par, Loop, Exc}
use Rattle.msc_tree.specs.declared.chart.Cover.TheVariants.{All}
use Rattle.msc_tree.specs.Statements.{Item, Statement, Covered, items}
use Rattle.token_grammar.specs.Classes.{token_of}
use Rattle.token_grammar.specs.Languages.{Set, Read, among, apart, within, starts, second, just, each_at, word_at, ◌>>=◌}
use Rattle.token_grammar.specs.Rows.{rows_at}
use Rattle.token_grammar.specs.Grammars.{Grammar, or, read_as, word}
use Rattle.token_grammar.proofs.Lists.{not_both}
use Rattle.token_grammar.proofs.Base.{Viable, opening_starts}
use Rattle.token_grammar.proofs.Flats.{Eats, eats_of, rule_by}
use Rattle.token_grammar.proofs.Levels.{reads_of, brink_of}
use Rattle.token_grammar.proofs.Optionals.{none, mapped, paired, behind_law, behind_rule}
use Rattle.token_grammar.proofs.PartRules.{ends, lead_law, lead_rule, name_list_law, name_list_rule, ending_law, ending_rule}
use Rattle.token_grammar.proofs.Rows.{Late, rows_law, rows_rule}
use Rattle.token_grammar.proofs.Rules.{Law, Rule, seq_law, seq_rule, or_law, or_rule, as_law, as_rule}
use Rattle.msc_events.proofs.DeclarationRules.{declaration_law, declaration_rule}
use Rattle.msc_document.specs.Inlines.{each, before}
use Rattle.msc_document.specs.DocumentGrammar.{happen, list, declare, finish, lead_statement, covered_of, some, covered, outside_operand}
use Rattle.msc_document.specs.DocumentReaders.{State, idle, events, multis, kind, long, alone, form_word, event_words, multi_words, closer_word, closer_seconds, opening_words, opening_at, more_words, more_seconds, more_at, statement_goes_on, statement_at, going_at, statements_at, Tails, outside_event_at, outside_multi_at, outside_at, outside_tails_at}
use Rattle.msc_document.proofs.Beginnings.{same_kind, opening_of, more, covered_continued}
use Rattle.msc_document.proofs.Continued.{Continued}
use Rattle.msc_document.proofs.ItemRules.{Events, Multis, TailLaws, TailRules, PartLaws, PartRules, shut_laws, inner_laws, shut_rules, inner_rules, events_law, events_rule, events_late, events_late_brink, events_begun, multis_law, multis_rule, multis_late, multis_late_brink, multis_begun, form_text_is, other_word}
use Rattle.msc_document.proofs.LineRules.{Flattened, upto_law, upto_rule, state_of}
use Rattle.msc_document.proofs.Lines.{grouped, next_state}
use Rattle.msc_document.proofs.StatementLoops.{state_words, mixed_at, same_loops}
use Rattle.msc_events.specs.declared.orientation.Orientation.TheVariants as written

abbrev pub Held : ℕ → Grammar (List Statement)
Held m = each (covered m)

pub none_yet : (m : ℕ) → (xs : List Statement) × (Held m).reads [] xs
none_yet m = ([], refl)

abbrev pub First : InlineForm → Set
First form = opening_words ++ form_word form

abbrev pub Behind : InlineForm → List Statement → Set
Behind form xs = more_seconds (Some form) (state_of kind idle xs)

pub no_end : (form : InlineForm) (xs : List Statement) → apart ends (Behind form xs) ≡ true
no_end form xs = in_state form (state_of kind idle xs)
  where
    in_state : (form : InlineForm) (q : State) → apart ends (more_seconds (Some form) q) ≡ true
    in_state form idle = refl
    in_state Alt events = refl
    in_state Alt multis = refl
    in_state Par events = refl
    in_state Par multis = refl
    in_state Opt events = refl
    in_state Opt multis = refl
    in_state Exc events = refl
    in_state Exc multis = refl
    in_state Loop events = refl
    in_state Loop multis = refl

pub no_closing : (form : InlineForm) (xs : List Statement) → apart (just (codes "end")) (Behind form xs) ≡ true
no_closing form xs = in_state form (state_of kind idle xs)
  where
    in_state : (form : InlineForm) (q : State) → apart (just (codes "end")) (more_seconds (Some form) q) ≡ true
    in_state form idle = refl
    in_state Alt events = refl
    in_state Alt multis = refl
    in_state Par events = refl
    in_state Par multis = refl
    in_state Opt events = refl
    in_state Opt multis = refl
    in_state Exc events = refl
    in_state Exc multis = refl
    in_state Loop events = refl
    in_state Loop multis = refl

abbrev pub OutEvents : ℕ → Grammar Item
OutEvents n = Events written.Covered outside_operand Held none_yet First Behind no_end no_closing n

abbrev pub OutMultis : ℕ → Grammar Item
OutMultis n = Multis written.Covered outside_operand Held none_yet First Behind no_end no_closing n

abbrev pub OutLaws : ℕ → Type 0
OutLaws n = TailLaws written.Covered outside_operand Held none_yet First Behind no_end no_closing n

abbrev pub OutRules : ℕ → Tails → Type 0
OutRules n p = TailRules written.Covered outside_operand Held none_yet First Behind no_end no_closing n p

abbrev pub OutParts : ℕ → Type 0
OutParts n = PartLaws written.Covered outside_operand Held none_yet First Behind no_end no_closing n

pub covered_is : (n : ℕ) → covered_of (some (OutEvents n)) (some (OutMultis n)) ≡ covered n
unfolding covered
covered_is zero = refl
covered_is (suc n) = refl

out_events_law : (n : ℕ) → OutLaws n → Law OutEvents n event_words none
out_events_law n t = events_law written.Covered outside_operand Held none_yet First Behind no_end no_closing n t

out_multis_law : (n : ℕ) → OutLaws n → Law OutMultis n multi_words none
out_multis_law n t = multis_law written.Covered outside_operand Held none_yet First Behind no_end no_closing n t

out_events_rule : (n : ℕ) (p : Tails) → OutRules n p → Rule OutEvents n event_words none (outside_event_at n p)
out_events_rule n p t = events_rule written.Covered outside_operand Held none_yet First Behind no_end no_closing n p t

out_multis_rule : (n : ℕ) (p : Tails) → OutRules n p → Rule OutMultis n multi_words none (outside_multi_at n p)
out_multis_rule n p t = multis_rule written.Covered outside_operand Held none_yet First Behind no_end no_closing n p t

abbrev pub Openings : ℕ → Grammar Statement
Openings n = opening_of (OutEvents n) (OutMultis n)

-- ---- a statement up to its first item

pub openings_law : (n : ℕ) → OutLaws n → Law Openings n opening_words none
openings_law n t =
    let e = as_law {R = OutEvents} alone none (out_events_law n t) (λ a. refl) in
    let m = as_law {R = OutMultis} alone none (out_multis_law n t) (λ a. refl) in
    or_law (as_law (λ p. lead_statement p.0 p.1) none (seq_law (lead_law n)
    (or_law (behind_law (just (codes ":")) (or_law (as_law happen none e (λ a. refl)) (or_law (as_law declare none (declaration_law n) (λ a. refl)) (as_law (λ x. finish) none (behind_law (just (codes "endinstance")) (ending_law n)) (λ a. refl)) refl) refl))
    (as_law (λ p. list p.0 p.1) none (behind_law (just (codes ",")) (seq_law (name_list_law n) (behind_law (just (codes ":")) m) (λ a. refl))) (λ a. refl)) refl) (λ a. refl)) (λ a. refl))
    (as_law (λ held. Covered All (items held)) none (behind_law (just (codes "all")) (behind_law (just (codes ":")) m)) (λ a. refl)) refl

pub openings_rule : (n : ℕ) (p : Tails) → OutRules n p → Rule Openings n opening_words none (opening_at (outside_event_at n p) (outside_multi_at n p))
openings_rule n p t =
    let e = as_rule {R = OutEvents} alone none (out_events_rule n p t) (λ a. refl) in
    let m = as_rule {R = OutMultis} alone none (out_multis_rule n p t) (λ a. refl) in
    or_rule (as_rule (λ p. lead_statement p.0 p.1) none (seq_rule (lead_rule n)
    (or_rule (behind_rule (just (codes ":")) (codes ":") refl (or_rule (as_rule happen none e (λ a. refl)) (or_rule (as_rule declare none (declaration_rule n) (λ a. refl)) (as_rule (λ x. finish) none (behind_rule (just (codes "endinstance")) (codes "endinstance") refl (ending_rule n)) (λ a. refl)) refl) refl))
    (as_rule (λ p. list p.0 p.1) none (behind_rule (just (codes ",")) (codes ",") refl (seq_rule (name_list_rule n) (behind_rule (just (codes ":")) (codes ":") refl m) (λ a. refl))) (λ a. refl)) refl) (λ a. refl)) (λ a. refl))
    (as_rule (λ held. Covered All (items held)) none (behind_rule (just (codes "all")) (codes "all") refl (behind_rule (just (codes ":")) (codes ":") refl m)) (λ a. refl)) refl

-- ---- statements up to a word, where they may begin otherwise as well

abbrev pub Mores : State → ℕ → Grammar Item
Mores q m = more (OutEvents m) (OutMultis m) q

abbrev pub Found : Type 0
Found = (List Item × List Statement) × Token

abbrev pub found : List (Statement ⊎ Item) × Token → Found
found x = (grouped long x.0, x.1)

abbrev pub none_found : List Statement × Token → Found
none_found p = (([], p.0), p.1)

abbrev pub found_statements : Found → List Statement
found_statements f = f.0.1

abbrev pub statements_found : List (Statement ⊎ Item) × Token → List Statement
statements_found x = (grouped long x.0).1

abbrev pub statements_read : List Statement × Token → List Statement
statements_read x = x.0

module _ (closer : Option InlineForm) (L S : ℕ → Grammar Statement) (B : Set) where
  abbrev pub W : Set
  W = closer_word (codes "endmsc") closer

  abbrev pub Mix : State → ℕ → Grammar (Statement ⊎ Item)
  Mix idle m = read_as inl (S m)
  Mix events m = or (read_as inl (S m)) (read_as inr (OutEvents m))
  Mix multis m = or (read_as inl (S m)) (read_as inr (OutMultis m))

  abbrev pub Words : State → Set
  Words q = state_words B q

  abbrev pub Seconds : State → Set
  Seconds q = more_seconds closer q

  -- what the words are apart from, and how a whole statement goes on from its beginning
  pub record Fits : Type 0 where
    pub free : apart B W ≡ true
    pub other : (q : State) → apart B (more_words q) ≡ true
    pub continued : (m : ℕ) → Continued (L m) (S m) (λ s. more (OutEvents m) (OutMultis m) (kind s)) long
    pub able : (q : State) → (within W (Words q) ≡ true) ⊎ (Seconds q ≡ [])

  module _ (fits : Fits) where
    inl_same : (a b : Statement) → (let i : Statement ⊎ Item = inl a in i) ≡ inl b → a ≡ b
    inl_same a b e = cc

    inr_same : (a b : Item) → (let i : Statement ⊎ Item = inr a in i) ≡ inr b → a ≡ b
    inr_same a b e = cc

    never_inl : (a : Statement) (b : Item) → (let i : Statement ⊎ Item = inl a in i) ≡ inr b → ⊥
    never_inl a b e = cc

    begin_in : (m : ℕ) (q : State) (x : List Token) (a : Statement) → (S m).reads x a → (Mix q m).reads x (inl a)
    begin_in m idle x a h = (a, h, refl)
    begin_in m events x a h = inl (a, h, refl)
    begin_in m multis x a h = inl (a, h, refl)

    begin_out : (m : ℕ) (q : State) (x : List Token) (a : Statement) → (Mix q m).reads x (inl a) → (S m).reads x a
    begin_out m idle x a h = subst (λ (c : Statement). (S m).reads x c) (sym (inl_same a h.0 h.2)) h.1
    begin_out m events x a (inl h) = subst (λ (c : Statement). (S m).reads x c) (sym (inl_same a h.0 h.2)) h.1
    begin_out m events x a (inr h) = absurd (never_inl a h.0 h.2)
    begin_out m multis x a (inl h) = subst (λ (c : Statement). (S m).reads x c) (sym (inl_same a h.0 h.2)) h.1
    begin_out m multis x a (inr h) = absurd (never_inl a h.0 h.2)

    more_in : (m : ℕ) (q : State) (x : List Token) (b : Item) → (Mores q m).reads x b → (Mix q m).reads x (inr b)
    more_in m idle x b h = absurd h
    more_in m events x b h = inr (b, h, refl)
    more_in m multis x b h = inr (b, h, refl)

    more_out : (m : ℕ) (q : State) (x : List Token) (b : Item) → (Mix q m).reads x (inr b) → (Mores q m).reads x b
    more_out m idle x b h = never_inl h.0 b (sym h.2)
    more_out m events x b (inl h) = absurd (never_inl h.0 b (sym h.2))
    more_out m events x b (inr h) = subst (λ (c : Item). (OutEvents m).reads x c) (sym (inr_same b h.0 h.2)) h.1
    more_out m multis x b (inl h) = absurd (never_inl h.0 b (sym h.2))
    more_out m multis x b (inr h) = subst (λ (c : Item). (OutMultis m).reads x c) (sym (inr_same b h.0 h.2)) h.1

    begin_brink : (m : ℕ) (q : State) (p : List Token) → (S m).brink p → (Mix q m).brink p
    begin_brink m idle p h = h
    begin_brink m events p h = inl h
    begin_brink m multis p h = inl h

    more_brink : (m : ℕ) (q : State) (p : List Token) → (Mores q m).brink p → (Mix q m).brink p
    more_brink m idle p h = absurd h
    more_brink m events p h = inr h
    more_brink m multis p h = inr h

    brink_out : (m : ℕ) (q : State) (p : List Token) → (Mix q m).brink p → (S m).brink p ⊎ (Mores q m).brink p
    brink_out m idle p h = inl h
    brink_out m events p h = h
    brink_out m multis p h = h

    flattened : Flattened W kind long L S Mores Mix Words Seconds idle
    flattened = record {
      same_kind = same_kind;
      continued = fits.continued;
      mixed = λ m. record { begin_in = begin_in m; begin_out = begin_out m; more_in = more_in m; more_out = more_out m; begin_brink = begin_brink m; more_brink = more_brink m; brink_out = brink_out m };
      none_first = λ m x b h. h;
      no_opening = λ m p h. h;
    }

    -- what begins with the word has behind it what begins an inline expression
    module _ (n : ℕ) (t : OutLaws n) (s : Law S n B none) where
      begin_late : (q : State) (m : ℕ) (x : List Token) (a : Statement) → (S m).reads x a → starts W x ≡ true → second W (Seconds q) x ≡ true
      begin_late q m x a h w = other_word B W (Seconds q) x fits.free (s.laws.begins m x a h) w

      event_late : (m : ℕ) (x : List Token) (a : Item) → (OutEvents m).reads x a → starts W x ≡ true → second W (closer_seconds closer) x ≡ true
      event_late m x a h w = pick closer refl
        where
          pick : (c : Option InlineForm) → closer ≡ c → second W (closer_seconds closer) x ≡ true
          pick None same = other_word event_words W (closer_seconds closer) x (subst (λ (o : Option InlineForm). apart event_words (closer_word (codes "endmsc") o) ≡ true) (sym same) refl) ((out_events_law n t).laws.begins m x a h) w
          pick (Some form) same = subst (λ (o : Option InlineForm). second (closer_word (codes "endmsc") o) (closer_seconds o) x ≡ true) (sym same)
              (events_late written.Covered outside_operand Held none_yet First Behind no_end no_closing form n m t x a h (subst (λ (o : Option InlineForm). starts (closer_word (codes "endmsc") o) x ≡ true) same w))

      multi_late : (m : ℕ) (x : List Token) (a : Item) → (OutMultis m).reads x a → starts W x ≡ true → second W (closer_seconds closer) x ≡ true
      multi_late m x a h w = pick closer refl
        where
          pick : (c : Option InlineForm) → closer ≡ c → second W (closer_seconds closer) x ≡ true
          pick None same = other_word multi_words W (closer_seconds closer) x (subst (λ (o : Option InlineForm). apart multi_words (closer_word (codes "endmsc") o) ≡ true) (sym same) refl) ((out_multis_law n t).laws.begins m x a h) w
          pick (Some form) same = subst (λ (o : Option InlineForm). second (closer_word (codes "endmsc") o) (closer_seconds o) x ≡ true) (sym same)
              (multis_late written.Covered outside_operand Held none_yet First Behind no_end no_closing form n m t x a h (subst (λ (o : Option InlineForm). starts (closer_word (codes "endmsc") o) x ≡ true) same w))

      late : Late W (next_state kind) Mix Words Seconds
      late idle m x a h w = begin_late idle m x h.0 h.1 w
      late events m x a (inl h) w = begin_late events m x h.0 h.1 w
      late events m x a (inr h) w = event_late m x h.0 h.1 w
      late multis m x a (inl h) w = begin_late multis m x h.0 h.1 w
      late multis m x a (inr h) w = multi_late m x h.0 h.1 w

      mix_law : (q : State) → Law (Mix q) n (Words q) none
      mix_law idle = as_law inl none s (λ a. refl)
      mix_law events = or_law (as_law inl none s (λ a. refl)) (as_law inr none (out_events_law n t) (λ a. refl)) (fits.other events)
      mix_law multis = or_law (as_law inl none s (λ a. refl)) (as_law inr none (out_multis_law n t) (λ a. refl)) (fits.other multis)

      pub statements_law : Law (λ m. before (each (L m)) (word W)) n (B ++ W) (λ xs. Seconds (state_of kind idle xs))
      statements_law = upto_law W kind long L S Mores Mix Words Seconds idle flattened n (rows_law W (next_state kind) Mix Words Seconds n late mix_law idle)

    -- the reader
    module _ (n : ℕ) (parts : (m : ℕ) → OutParts m) (t : OutLaws n) (s : Law S n B none) (p : Tails) (r : OutRules n p) (o : List Token → Read Statement) (sr : Rule S n B none o) where
      begin_late_brink : (q : State) (x : List Token) → (S n).brink x → starts W x ≡ true → second W (Seconds q) x ≡ true
      begin_late_brink q x h w = other_word B W (Seconds q) x fits.free (subst (λ l. starts B l ≡ true) (append-nil x) (opening_starts (reads_of S) (brink_of S) B none n sr.known x h [])) w

      event_late_brink : (x : List Token) → (OutEvents n).brink x → starts W x ≡ true → second W (closer_seconds closer) x ≡ true
      event_late_brink x h w = pick closer refl
        where
          pick : (c : Option InlineForm) → closer ≡ c → second W (closer_seconds closer) x ≡ true
          pick None same = other_word event_words W (closer_seconds closer) x (subst (λ (o : Option InlineForm). apart event_words (closer_word (codes "endmsc") o) ≡ true) (sym same) refl)
              (subst (λ l. starts event_words l ≡ true) (append-nil x) (opening_starts (reads_of OutEvents) (brink_of OutEvents) event_words none n (out_events_rule n p r).known x h [])) w
          pick (Some form) same = subst (λ (o : Option InlineForm). second (closer_word (codes "endmsc") o) (closer_seconds o) x ≡ true) (sym same)
              (events_late_brink written.Covered outside_operand Held none_yet First Behind no_end no_closing form n p r x h (subst (λ (o : Option InlineForm). starts (closer_word (codes "endmsc") o) x ≡ true) same w))

      multi_late_brink : (x : List Token) → (OutMultis n).brink x → starts W x ≡ true → second W (closer_seconds closer) x ≡ true
      multi_late_brink x h w = pick closer refl
        where
          pick : (c : Option InlineForm) → closer ≡ c → second W (closer_seconds closer) x ≡ true
          pick None same = other_word multi_words W (closer_seconds closer) x (subst (λ (o : Option InlineForm). apart multi_words (closer_word (codes "endmsc") o) ≡ true) (sym same) refl)
              (subst (λ l. starts multi_words l ≡ true) (append-nil x) (opening_starts (reads_of OutMultis) (brink_of OutMultis) multi_words none n (out_multis_rule n p r).known x h [])) w
          pick (Some form) same = subst (λ (o : Option InlineForm). second (closer_word (codes "endmsc") o) (closer_seconds o) x ≡ true) (sym same)
              (multis_late_brink written.Covered outside_operand Held none_yet First Behind no_end no_closing form n p r x h (subst (λ (o : Option InlineForm). starts (closer_word (codes "endmsc") o) x ≡ true) same w))

      late_brink : (q : State) (x : List Token) → (Mix q n).brink x → starts W x ≡ true → second W (Seconds q) x ≡ true
      late_brink idle x h w = begin_late_brink idle x h w
      late_brink events x (inl h) w = begin_late_brink events x h w
      late_brink events x (inr h) w = event_late_brink x h w
      late_brink multis x (inl h) w = begin_late_brink multis x h w
      late_brink multis x (inr h) w = multi_late_brink x h w

      begun : (q : State) (d e : Token) → among (Words q) d ≡ true → among W d ≡ true → among (Seconds q) e ≡ true → Viable (reads_of (Mix q)) (suc n) (d ∷ e ∷ [])
      begun idle d e f w g = absurd (not_both (sym g))
      begun events d e f w g = pick closer refl
        where
          pick : (c : Option InlineForm) → closer ≡ c → Viable (reads_of (Mix events)) (suc n) (d ∷ e ∷ [])
          pick None same = absurd (not_both (sym (subst (λ (o : Option InlineForm). among (closer_seconds o) e ≡ true) same g)))
          pick (Some form) same =
              let v = events_begun written.Covered outside_operand Held none_yet First Behind no_end no_closing parts form n d e (subst (λ (o : Option InlineForm). among (closer_word (codes "endmsc") o) d ≡ true) same w)
              (subst (λ (o : Option InlineForm). among (closer_seconds o) e ≡ true) same g) in
              record { more = v.more; value = inr v.value; holds = inr (v.value, v.holds, refl) }
      begun multis d e f w g = pick closer refl
        where
          pick : (c : Option InlineForm) → closer ≡ c → Viable (reads_of (Mix multis)) (suc n) (d ∷ e ∷ [])
          pick None same = absurd (not_both (sym (subst (λ (o : Option InlineForm). among (closer_seconds o) e ≡ true) same g)))
          pick (Some form) same =
              let v = multis_begun written.Covered outside_operand Held none_yet First Behind no_end no_closing parts form n d e (subst (λ (o : Option InlineForm). among (closer_word (codes "endmsc") o) d ≡ true) same w)
              (subst (λ (o : Option InlineForm). among (closer_seconds o) e ≡ true) same g) in
              record { more = v.more; value = inr v.value; holds = inr (v.value, v.holds, refl) }

      some_text : (text : List ℕ) × (among W (token_of text) ≡ true)
      some_text = pick closer refl
        where
          pick : (c : Option InlineForm) → closer ≡ c → (text : List ℕ) × (among W (token_of text) ≡ true)
          pick None same = (codes "endmsc", subst (λ (o : Option InlineForm). among (closer_word (codes "endmsc") o) (token_of (codes "endmsc")) ≡ true) (sym same) refl)
          pick (Some form) same = (form_text form, subst (λ (o : Option InlineForm). among (closer_word (codes "endmsc") o) (token_of (form_text form)) ≡ true) (sym same) (form_text_is form))

      abbrev pub e_at : List Token → Read Item
      e_at = outside_event_at n p

      abbrev pub m_at : List Token → Read Item
      m_at = outside_multi_at n p

      mix_rule : (q : State) → Rule (Mix q) n (Words q) none (mixed_at B o e_at m_at q)
      mix_rule idle = as_rule inl none sr (λ a. refl)
      mix_rule events = or_rule (as_rule inl none sr (λ a. refl)) (as_rule inr none (out_events_rule n p r) (λ a. refl)) (fits.other events)
      mix_rule multis = or_rule (as_rule inl none sr (λ a. refl)) (as_rule inr none (out_multis_rule n p r) (λ a. refl)) (fits.other multis)

      eats_more : (q : State) → Eats (more_words q) (more_at e_at m_at q)
      eats_more idle = λ ts x f q. absurd (never ts f)
        where
          never : (ts : List Token) → starts [] ts ≡ true → ⊥
          never [] f = cc
          never (u ∷ ts) f = cc
      eats_more events = eats_of OutEvents n event_words none e_at (out_events_rule n p r) event_words
      eats_more multis = eats_of OutMultis n multi_words none m_at (out_multis_rule n p r) multi_words

      abbrev pub flat_here : List Token → Read (List (Statement ⊎ Item) × Token)
      flat_here ts = rows_at W (next_state kind) Words Seconds (mixed_at B o e_at m_at) (length ts) idle ts

      -- nothing goes on with the beginning of the text
      no_run : (ts : List Token) → (going_at (statement_goes_on closer idle) (more_at e_at m_at idle) (length ts) ts >>= λ held. mapped (λ (q : List Statement × Token). ((held.0, q.0), q.1)) (paired (each_at B (statement_at closer o e_at m_at) (length ts) held.1) (word_at W)))
          ≡ mapped none_found (paired (each_at B (statement_at closer o e_at m_at) (length ts) ts) (word_at W))
      no_run [] = refl
      no_run (u ∷ ts) = refl

      -- the items before the first statement are none
      drop_none : (x : Read (List (Statement ⊎ Item) × Token)) (y : Read (List Statement × Token)) → mapped found x ≡ mapped none_found y → mapped statements_found x ≡ mapped statements_read y
      drop_none x y h = sym (kept_of x) ∙ ap (mapped found_statements) h ∙ read_of y
        where
          kept_of : (x : Read (List (Statement ⊎ Item) × Token)) → mapped found_statements (mapped found x) ≡ mapped statements_found x
          kept_of (Ok z) = refl
          kept_of (Err s) = refl

          read_of : (y : Read (List Statement × Token)) → mapped found_statements (mapped none_found y) ≡ mapped statements_read y
          read_of (Ok z) = refl
          read_of (Err s) = refl

      pub statements_rule : Rule (λ m. before (each (L m)) (word W)) n (B ++ W) (λ xs. Seconds (state_of kind idle xs)) (statements_at closer B o e_at m_at)
      statements_rule =
          rule_by (λ m. before (each (L m)) (word W)) n (B ++ W) (λ xs. Seconds (state_of kind idle xs)) (λ ts. mapped statements_found (flat_here ts)) (statements_at closer B o e_at m_at)
          (λ ts. drop_none (flat_here ts) (paired (each_at B (statement_at closer o e_at m_at) (length ts) ts) (word_at W))
          (same_loops closer B o e_at m_at (eats_of S n B none o sr B) eats_more fits.free fits.other (length ts) idle ts (length ts) (length ts) (omega arith) (omega arith) (omega arith) ∙ no_run ts))
          (upto_rule W kind long L S Mores Mix Words Seconds idle flattened n
          (rows_rule W (next_state kind) Mix Words Seconds n (late n t s) late_brink some_text.0 some_text.1 begun fits.able (mixed_at B o e_at m_at) mix_rule idle))

-- ---- operands

fits_operand : (form : InlineForm) → Fits (Some form) covered Openings opening_words
fits_operand form = record { free = free form; other = other; continued = λ m. subst (λ g. Continued g (Openings m) (λ s. more (OutEvents m) (OutMultis m) (kind s)) long) (covered_is m) (covered_continued (OutEvents m) (OutMultis m)); able = able form }
  where
    free : (form : InlineForm) → apart opening_words (form_word form) ≡ true
    free Alt = refl
    free Par = refl
    free Opt = refl
    free Exc = refl
    free Loop = refl

    other : (q : State) → apart opening_words (more_words q) ≡ true
    other idle = refl
    other events = refl
    other multis = refl

    able : (form : InlineForm) (q : State) → (within (form_word form) (state_words opening_words q) ≡ true) ⊎ (more_seconds (Some form) q ≡ [])
    able form idle = inr refl
    able Alt events = inl refl
    able Alt multis = inl refl
    able Par events = inl refl
    able Par multis = inl refl
    able Opt events = inl refl
    able Opt multis = inl refl
    able Exc events = inl refl
    able Exc multis = inl refl
    able Loop events = inl refl
    able Loop multis = inl refl

-- ---- all numbers of levels

out_part_laws : (n : ℕ) → OutLaws n → OutParts n
out_part_laws n t form = statements_law (Some form) covered Openings opening_words (fits_operand form) n t (openings_law n t)

pub out_laws : (n : ℕ) → OutLaws n
out_laws zero = shut_laws written.Covered outside_operand Held none_yet First Behind no_end no_closing
out_laws (suc n) = inner_laws written.Covered outside_operand Held none_yet First Behind no_end no_closing n (out_part_laws n (out_laws n))

pub out_parts : (n : ℕ) → OutParts n
out_parts n = out_part_laws n (out_laws n)

out_part_rules : (n : ℕ) (p : Tails) → OutRules n p → PartRules written.Covered outside_operand Held none_yet First Behind no_end no_closing n (λ form. outside_at form n p)
out_part_rules n p r form = statements_rule (Some form) covered Openings opening_words (fits_operand form) n out_parts (out_laws n) (openings_law n (out_laws n)) p r
    (opening_at (outside_event_at n p) (outside_multi_at n p)) (openings_rule n p r)

pub out_rules : (n : ℕ) → OutRules n (outside_tails_at n)
unfolding outside_tails_at
out_rules zero = shut_rules written.Covered outside_operand Held none_yet First Behind no_end no_closing out_parts
out_rules (suc n) = inner_rules written.Covered outside_operand Held none_yet First Behind no_end no_closing n (λ form. outside_at form n (outside_tails_at n)) (out_part_rules n (outside_tails_at n) (out_rules n))
