-- References: the second token decides whether the reference is named.
use Rattle.std.proofs.Common.{ℕ, ◌≡◌, ◌∙◌, ◌++◌, ◌⊎◌, ◌&&◌, ◌||◌, not, Bool, true, false, List, [], ◌∷◌, refl, sym, ap, inl, inr, append_assoc, append-nil, subst, suc, zero, Option, Some, None, Ok, Err, codes}
use Rattle.std.specs.Str.{bytes_eq}
use Rattle.std.proofs.lemmas.Slice.Eq.{bytes_eq-Decides}
use Rattle.msc_tokens.specs.declared.token.Token.{Token}
use Rattle.msc_tree.specs.declared.chart.Cover.{Cover}
use Rattle.msc_tree.specs.declared.reference.Join.{Join}
use Rattle.msc_tree.specs.Expressions.{Expression, Chart, Empty}
use Rattle.msc_tree.specs.Statements.{Reference}
use Rattle.token_grammar.specs.Classes.{is_name}
use Rattle.token_grammar.specs.Languages.{Set, Read, refused, deep, among, apart, starts, just, names, second, map_at, seq_at, second_at}
use Rattle.token_grammar.specs.Grammars.{Grammar, seq, or, read_as, behind, optional, bytes_of}
use Rattle.token_grammar.specs.PartReaders.{ending_at}
use Rattle.token_grammar.specs.Parts.{name, mark, ending, all_or_none, separated}
use Rattle.token_grammar.proofs.Lists.{NotStart, apart_start, no_start, starts-append, cancel, heads, not_both, two_starts}
use Rattle.token_grammar.proofs.Base.{Viable, Laws, Meant}
use Rattle.token_grammar.proofs.Levels.{reads_of, brink_of}
use Rattle.token_grammar.proofs.Rules.{Law, Rule, seq_rule, as_rule}
use Rattle.token_grammar.proofs.Optionals.{none, optional_rule, behind_rule}
use Rattle.token_grammar.proofs.PartRules.{name_rule, ending_rule, ends, placed_rule}
use Rattle.token_grammar.proofs.Seconds.{second_rule}
use Rattle.token_grammar.proofs.Shallow.{optional_shallow}
use Rattle.msc_document.proofs.Shallows.{joins_shallow, shared_in_shallow}
use Rattle.msc_events.specs.Multis.{shared_in, joins}
use Rattle.msc_events.specs.MultiReaders.{shared_words, shared_in_at}
use Rattle.msc_events.proofs.MultiRules.{shared_in_rule, joins_rule}
use Rattle.msc_expression.specs.ExpressionGrammar.{expression, prefix, parallel, sequence, chart_names}
use Rattle.msc_expression.specs.ExpressionReaders.{expression_at}
use Rattle.msc_expression.proofs.ExpressionRules.{first_words, after_expression, expression_law, expression_rule}
use Rattle.msc_document.specs.DocumentGrammar.{reference_parts, reference_of, reference}
use Rattle.msc_document.proofs.Parts.{behind_in, behind_out, behind_brink_out}
use Rattle.msc_document.specs.DocumentReaders.{some_joins_at, reference_parts_at, named_reference_at, reference_at}
use Rattle.msc_events.specs.declared.orientation.Orientation.{Orientation}
use Rattle.msc_events.specs.declared.orientation.Orientation.TheVariants as written

-- ---- the same first tokens under another name

module _ (F G : Set) (same : (t : Token) → among F t ≡ among G t) where
  starts_same : (ts : List Token) → starts F ts ≡ starts G ts
  starts_same [] = refl
  starts_same (t ∷ ts) = same t

  module _ {A : Type 0} (R : ℕ → Grammar A) (C : A → Set) where
    turned_laws : (m : ℕ) → Laws (reads_of R) F C m → Laws (reads_of R) G C m
    turned_laws m r = record { up = r.up; unique = r.unique; begins = λ i x a h. sym (starts_same x) ∙ r.begins i x a h }

    turned_law : (n : ℕ) → Law R n F C → Law R n G C
    turned_law n r = record { laws = turned_laws n r.laws }

    turned_rule : (n : ℕ) (p : List Token → Read A) → Rule R n F C p → Rule R n G C p
    turned_rule n p r = record {
      known = record { laws = λ m. turned_laws m (r.known.laws m); word = r.known.word; opened = r.known.opened; some = r.known.some; proper = r.known.proper };
      meant = λ ts. step ts (p ts) (r.meant ts);
    }
      where
        step : (ts : List Token) (x : Read A) → Meant (reads_of R) (brink_of R) n F C ts x → Meant (reads_of R) (brink_of R) n G C ts x
        step ts (Ok x) h = record { used = h.used; cut = h.cut; holds = h.holds; ends = h.ends }
        step ts (Err (refused k)) h = record {
          used = h.used;
          rest = h.rest;
          cut = h.cut;
          left = h.left;
          viable = h.viable;
          stops = h.stops;
          first = λ e. sym (starts_same h.rest) ∙ h.first e;
          safe = h.safe;
        }
        step ts (Err (deep k)) h = record { used = h.used; token = h.token; rest = h.rest; cut = h.cut; left = h.left; brink = h.brink; safe = h.safe }

-- what an expression begins with: a name is `empty` or another one
abbrev pub expression_words : Set
expression_words = just (codes "loop") ++ (just (codes "opt") ++ (just (codes "(") ++ names))

same_words : (t : Token) → among first_words t ≡ among expression_words t
same_words t = ap (λ b. bytes_eq t.bytes (codes "loop") || (bytes_eq t.bytes (codes "opt") || (bytes_eq t.bytes (codes "(") || b))) (pick (bytes_eq t.bytes (codes "empty")) refl)
  where
    pick : (b : Bool) → bytes_eq t.bytes (codes "empty") ≡ b → (bytes_eq t.bytes (codes "empty") || ((is_name t.bytes && not (bytes_eq t.bytes (codes "empty") || false)) || false)) ≡ ((is_name t.bytes && not false) || false)
    pick true e = let same : t.bytes ≡ codes "empty" = (bytes_eq-Decides t.bytes (codes "empty")).0 e in
        subst (λ (l : List ℕ). (bytes_eq l (codes "empty") || ((is_name l && not (bytes_eq l (codes "empty") || false)) || false)) ≡ ((is_name l && not false) || false)) (sym same) refl
    pick false e = rw e refl

expression_law_here : (n : ℕ) → Law expression n expression_words after_expression
expression_law_here n = turned_law first_words expression_words same_words expression after_expression n (expression_law n)

expression_rule_here : (n : ℕ) → Rule expression n expression_words after_expression (expression_at n)
expression_rule_here n = turned_rule first_words expression_words same_words expression after_expression n (expression_at n) (expression_rule n)

-- ---- what stands behind an expression

abbrev pub Sharing : Type 0
Sharing = List Join × (Option Cover × Unit {0})

-- [ joins ] [ shared ] end
abbrev sharing : Orientation → Grammar Sharing
sharing orientation = optional all_or_none joins (shared_in orientation ending)

abbrev sharing_words : Orientation → Set
sharing_words orientation = just (codes "via") ++ (shared_words orientation ++ ends)

sharing_rule : (orientation : Orientation) (n : ℕ) → Rule (λ m. sharing orientation) n (sharing_words orientation) none (seq_at some_joins_at (seq_at (shared_in_at orientation) ending_at))
sharing_rule orientation n = optional_rule all_or_none (joins_rule n) (shared_in_rule refl refl refl orientation (ending_rule n)) (free orientation) (other orientation)
  where
    free : (orientation : Orientation) (a : List Join) → apart (shared_words orientation ++ ends) (just (codes ",")) ≡ true
    free written.Column a = refl
    free written.Covered a = refl

    other : (orientation : Orientation) → apart (just (codes "via")) (shared_words orientation ++ ends) ≡ true
    other written.Column = refl
    other written.Covered = refl

behind_expression : (orientation : Orientation) (a : Expression) → apart (sharing_words orientation) (after_expression a) ≡ true
behind_expression written.Column a = refl
behind_expression written.Covered a = refl

no_colon : (orientation : Orientation) → apart (just (codes ":")) (sharing_words orientation) ≡ true
no_colon written.Column = refl
no_colon written.Covered = refl

-- ---- a name alone is an expression

name_form : (t : Token) → among names t ≡ true → (a : Expression) × (or (read_as (λ t. Empty) (mark (codes "empty"))) (read_as Chart (bytes_of chart_names))).reads (t ∷ []) a
name_form t e = pick (bytes_eq t.bytes (codes "empty")) refl
  where
    pick : (b : Bool) → bytes_eq t.bytes (codes "empty") ≡ b → (a : Expression) × (or (read_as (λ t. Empty) (mark (codes "empty"))) (read_as Chart (bytes_of chart_names))).reads (t ∷ []) a
    pick true is = (Empty, inl (t.bytes, (t, (refl, (let h : among (just (codes "empty")) t ≡ true = rw is refl in h)), refl), refl))
    pick false is = (Chart t.bytes, inr (t.bytes, (t, (refl, chart), refl), refl))
      where
        chart : among chart_names t ≡ true
        chart = rw is e

name_prefix : (n : ℕ) (t : Token) → among names t ≡ true → (a : Expression) × (prefix n).reads (t ∷ []) a
unfolding prefix
name_prefix zero t e = let f = name_form t e in (f.0, inr (inr (inr f.1)))
name_prefix (suc n) t e = let f = name_form t e in (f.0, inr (inr (inr f.1)))

alone : {A : Type 0} (text : List ℕ) (R : Grammar A) (x : List Token) (a : A) → R.reads x a → (separated text R).reads x (a ∷ [])
alone text R x a h = ((a, []), (x, [], sym (append-nil x), h, refl), refl)

name_expression : (n : ℕ) (t : Token) → among names t ≡ true → (a : Expression) × (expression n).reads (t ∷ []) a
name_expression n t e =
    let f = name_prefix n t e in (
      f.0,
      (
        f.0 ∷ [],
        alone (codes "alt") (parallel (prefix n)) (t ∷ []) f.0
            (f.0 ∷ [], alone (codes "par") (sequence (prefix n)) (t ∷ []) f.0 (f.0 ∷ [], alone (codes "seq") (prefix n) (t ∷ []) f.0 f.1, refl), refl),
        refl,
      ),
    )

-- nothing of it opens a level
shared_shallow : (orientation : Orientation) (p : List Token) → (sharing orientation).brink p → ⊥
shared_shallow orientation p k = (optional_shallow all_or_none joins_shallow (shared_in_shallow orientation)).none p k

module _ (orientation : Orientation) where
  abbrev Parts : ℕ → Grammar (Expression × (List Join × Option Cover))
  Parts n = reference_parts orientation (expression n)

  parts_rule : (n : ℕ) → Rule Parts n expression_words none (reference_parts_at orientation (expression_at n))
  parts_rule n = as_rule (λ p. (p.0, (p.1.0, p.1.1.0))) none (seq_rule (expression_rule_here n) (sharing_rule orientation n) (behind_expression orientation)) (λ a. refl)

  parts_law : (n : ℕ) → Law Parts n expression_words none
  parts_law n = record { laws = (parts_rule n).known.laws n }

  abbrev Named : ℕ → Grammar Reference
  Named n = read_as (λ p. reference_of (Some p.0) p.1) (seq name (behind (just (codes ":")) (Parts n)))

  abbrev Unnamed : ℕ → Grammar Reference
  Unnamed n = read_as (reference_of None) (Parts n)

  named_rule : (n : ℕ) → Rule Named n names none (named_reference_at orientation (expression_at n))
  named_rule n = as_rule (λ p. reference_of (Some p.0) p.1) none (seq_rule (name_rule n) (behind_rule (just (codes ":")) (codes ":") refl (parts_rule n)) (λ a. refl)) (λ a. refl)

  unnamed_rule : (n : ℕ) → Rule Unnamed n expression_words none (map_at (reference_of None) (reference_parts_at orientation (expression_at n)))
  unnamed_rule n = as_rule (reference_of None) none (parts_rule n) (λ a. refl)

  -- ---- the second token

  named_second : (m : ℕ) (x : List Token) (a : Reference) → (Named m).reads x a → second names (just (codes ":")) x ≡ true
  named_second m x a h = here x (behind_name h.1)
    where
      behind_name : (seq name (behind (just (codes ":")) (Parts m))).reads x h.0 → (t : Token) × (z : List Token) × (x ≡ t ∷ z) × (among names t ≡ true) × (starts (just (codes ":")) z ≡ true)
      behind_name k =
          let n = k.3 in
          let c = behind_out (just (codes ":")) (Parts m) k.1 h.0.1 k.4 in
          (n.0, k.1, k.2 ∙ ap (λ l. l ++ k.1) n.1.0, n.1.1, subst (λ l. starts (just (codes ":")) l ≡ true) (sym c.2) c.3)

      here : (x : List Token) → ((t : Token) × (z : List Token) × (x ≡ t ∷ z) × (among names t ≡ true) × (starts (just (codes ":")) z ≡ true)) → second names (just (codes ":")) x ≡ true
      here x k = rw (k.2, k.3) k.4

  named_brink : (m : ℕ) (x : List Token) → (Named m).brink x → second names (just (codes ":")) x ≡ true
  named_brink m x (inl k) = absurd k
  named_brink m x (inr k) =
      let n = k.4 in
      let c = behind_brink_out (just (codes ":")) (Parts m) k.1 k.5 in
      here x n.0 k.1 (k.3 ∙ ap (λ l. l ++ k.1) n.1.0) n.1.1 (subst (λ l. starts (just (codes ":")) l ≡ true) (sym c.2) c.3)
    where
      here : (x : List Token) (t : Token) (z : List Token) → x ≡ t ∷ z → among names t ≡ true → starts (just (codes ":")) z ≡ true → second names (just (codes ":")) x ≡ true
      here x t z e f g = rw (e, f) g

  -- a name and a colon begin no expression and what stands behind it
  colon_behind : (m : ℕ) (t : Token) (u : List Token) → among names t ≡ true → starts (just (codes ":")) u ≡ true → (y : List Token) (a : Expression) → (expression m).reads y a → (w : List Token)
      → starts (sharing_words orientation) w ≡ true ⊎ (w ≡ []) → t ∷ u ≡ y ++ w → ⊥
  colon_behind m t u e g y a h w s line =
      let one = name_expression m t e in
      let nu : NotStart (just (codes "alt") ++ (just (codes "par") ++ just (codes "seq"))) u = apart_start (just (codes ":")) (after_expression a) u refl g in
      let same = (expression_law m).laws.unique m (t ∷ []) y u w one.0 a one.1 h line nu (not_more s) in
      let rest : u ≡ w = cancel (t ∷ []) u w (line ∙ ap (λ l. l ++ w) (sym same.0)) in
      behind s rest
    where
      not_more : starts (sharing_words orientation) w ≡ true ⊎ (w ≡ []) → NotStart (after_expression a) w
      not_more (inl f) = apart_start (sharing_words orientation) (after_expression a) w (behind_expression orientation a) f
      not_more (inr f) = subst (NotStart (after_expression a)) (sym f) (no_start (after_expression a))

      behind : starts (sharing_words orientation) w ≡ true ⊎ (w ≡ []) → u ≡ w → ⊥
      behind (inl f) rest = two_starts (just (codes ":")) (sharing_words orientation) u (no_colon orientation) g (subst (λ l. starts (sharing_words orientation) l ≡ true) (sym rest) f)
      behind (inr f) rest = not_both (sym (subst (λ l. starts (just (codes ":")) l ≡ true) (rest ∙ f) g))

  -- where the second token would decide for a name
  second_false : (x v : List Token) → ((t : Token) (u : List Token) → x ++ v ≡ t ∷ u → among names t ≡ true → starts (just (codes ":")) u ≡ true → ⊥) → second names (just (codes ":")) (x ++ v) ≡ false
  second_false x v never = go (x ++ v) refl
    where
      go : (l : List Token) → x ++ v ≡ l → second names (just (codes ":")) l ≡ false
      go [] e = refl
      go (t ∷ u) e = pick (among names t) (starts (just (codes ":")) u) refl refl
        where
          pick : (a b : Bool) → among names t ≡ a → starts (just (codes ":")) u ≡ b → (among names t && starts (just (codes ":")) u) ≡ false
          pick true true f g = absurd (never t u e f g)
          pick true false f g = rw (f, g) refl
          pick false b f g = rw f refl

  unnamed_second : (m : ℕ) (x : List Token) (a : Reference) → (Unnamed m).reads x a → (v : List Token) → second names (just (codes ":")) (x ++ v) ≡ false
  unnamed_second m x a h v = second_false x v no
    where
      no : (t : Token) (u : List Token) → x ++ v ≡ t ∷ u → among names t ≡ true → starts (just (codes ":")) u ≡ true → ⊥
      no t u e f g =
          let k = h.1.1 in
          colon_behind m t u f g k.0 h.1.0.0 k.3 (k.1 ++ v) (inl (starts-append (sharing_words orientation) k.1 v (((sharing_rule orientation 0).known.laws 0).begins m k.1 h.1.0.1 k.4)))
          (sym e ∙ ap (λ l. l ++ v) k.2 ∙ append_assoc k.0 k.1 v)

  unnamed_brink : (n : ℕ) (x : List Token) → (Unnamed n).brink x → (v : List Token) → second names (just (codes ":")) (x ++ v) ≡ false
  unnamed_brink n x (inr k) v = absurd (shared_shallow orientation k.1 k.5)
  unnamed_brink n x (inl k) v = second_false x v no
    where
      open_here : Viable (reads_of expression) (suc n) x
      open_here = (expression_rule n).known.opened x k

      no : (t : Token) (u : List Token) → x ++ v ≡ t ∷ u → among names t ≡ true → starts (just (codes ":")) u ≡ true → ⊥
      no t u e f g = go x refl
        where
          go : (l : List Token) → x ≡ l → ⊥
          go [] q = (expression_rule n).known.some x k q
          go (c ∷ []) q =
              let hd = heads c t v u (sym (ap (λ l. l ++ v) q) ∙ e) in
              let one = name_expression n t f in
              (expression_rule n).known.proper (t ∷ []) one.0 one.1 x [] (sym (append-nil x ∙ q ∙ ap (λ (d : Token). d ∷ []) hd.0)) k
          go (c ∷ d ∷ l) q =
              let hd = heads c t (d ∷ l ++ v) u (sym (ap (λ l. l ++ v) q) ∙ e) in
              let v2 = open_here in
              colon_behind (suc n) t (d ∷ l ++ v2.more) f (subst (λ (m : List Token). starts (just (codes ":")) m ≡ true) (sym hd.1) g) (x ++ v2.more) v2.value v2.holds [] (inr refl)
              (sym (ap (λ (m : List Token). (m ++ v2.more) ++ []) q ∙ append-nil (c ∷ d ∷ l ++ v2.more) ∙ ap (λ (b : Token). b ∷ d ∷ l ++ v2.more) hd.0))

  begun : (n : ℕ) (c d : Token) → among names c ≡ true → among (just (codes ":")) d ≡ true → Viable (reads_of Named) (suc n) (c ∷ d ∷ [])
  begun n c d e f =
      let w = (parts_rule n).known.word in
      record { more = w.more; value = reference_of (Some c.bytes) w.value; holds = ((c.bytes, w.value), (c ∷ [], d ∷ w.more, refl, (c, (refl, e), refl), behind_in (just (codes ":")) (Parts (suc n)) d w.more w.value f w.holds), refl) }

  -- ---- the law and the rule

  reference_second : (n : ℕ) → Rule (λ m. or (Named m) (Unnamed m)) n expression_words none (second_at names (just (codes ":")) (named_reference_at orientation (expression_at n)) (map_at (reference_of None) (reference_parts_at orientation (expression_at n))))
  reference_second n = second_rule Named Unnamed names (just (codes ":")) expression_words none named_second unnamed_second n (named_rule n) (unnamed_rule n) refl (begun n) (named_brink n) (unnamed_brink n)

  pub reference_rule : (n : ℕ) → Rule (λ m. reference orientation (expression m)) n (just (codes "reference")) none (reference_at orientation (expression_at n))
  reference_rule n = placed_rule (just (codes "reference")) (codes "reference") refl (reference_second n)

  pub reference_law : (n : ℕ) → Law (λ m. reference orientation (expression m)) n (just (codes "reference")) none
  reference_law n = record { laws = (reference_rule n).known.laws n }
