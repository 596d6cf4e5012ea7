-- Nested loops read what the one loop over the flat list reads.
use Rattle.std.proofs.Common.{ℕ, zero, suc, ◌≡◌, ◌∙◌, ◌++◌, ◌⊎◌, ◌≤◌, ◌&&◌, ◌||◌, not, Bool, true, false, List, [], ◌∷◌, length, refl, sym, ap, inl, inr, Option, Ok, Err, arith, codes}
use Rattle.msc_tokens.specs.declared.token.Token.{Token}
use Rattle.msc_tree.specs.declared.reference.InlineForm.{InlineForm}
use Rattle.msc_tree.specs.Statements.{Item, Statement}
use Rattle.token_grammar.specs.Languages.{Set, Read, among, apart, starts, ◌>>=◌, word_at, each_at, map_at, either_at}
use Rattle.token_grammar.specs.Rows.{rows_at, goes_on}
use Rattle.token_grammar.proofs.Lists.{among-append, apart_among}
use Rattle.token_grammar.proofs.Flats.{Eats}
use Rattle.token_grammar.proofs.Optionals.{mapped, paired}
use Rattle.msc_document.specs.DocumentReaders.{State, idle, events, multis, kind, long, more_words, more_seconds, more_at, statement_goes_on, statement_at, going_at, closer_word}
use Rattle.msc_document.proofs.Lines.{grouped, next_state}

-- what begins in a state: a statement, or what goes on
abbrev pub state_words : Set → State → Set
state_words B idle = B
state_words B events = B ++ more_words events
state_words B multis = B ++ more_words multis

-- the reader of one thing in a state
abbrev pub mixed_at : Set → (List Token → Read Statement) → (List Token → Read Item) → (List Token → Read Item) → State → List Token → Read (Statement ⊎ Item)
mixed_at B o e m idle = map_at inl o
mixed_at B o e m events = either_at B (map_at inl o) (map_at inr e)
mixed_at B o e m multis = either_at B (map_at inl o) (map_at inr m)

abbrev Found : Type 0
Found = (List Item × List Statement) × Token

module _ (closer : Option InlineForm) (B : Set) (o : List Token → Read Statement) (e m : List Token → Read Item) (eats_o : Eats B o) (eats : (q : State) → Eats (more_words q) (more_at e m q))
    (free : apart B (closer_word (codes "endmsc") closer) ≡ true) (other : (q : State) → apart B (more_words q) ≡ true) where
  abbrev W : Set
  W = closer_word (codes "endmsc") closer

  abbrev rows_here : ℕ → State → List Token → Read (List (Statement ⊎ Item) × Token)
  rows_here k q ts = rows_at W (next_state kind) (state_words B) (more_seconds closer) (mixed_at B o e m) k q ts

  abbrev of_rows : Read (List (Statement ⊎ Item) × Token) → Read Found
  of_rows r = mapped (λ (x : List (Statement ⊎ Item) × Token). (grouped long x.0, x.1)) r

  abbrev statements_here : ℕ → List Token → Read (List Statement × Token)
  statements_here i ts = paired (each_at B (statement_at closer o e m) i ts) (word_at W)

  abbrev with_items : List Item → List Statement × Token → Found
  with_items held p = ((held, p.0), p.1)

  abbrev run_here : State → ℕ → List Token → Read (List Item)
  run_here q j ts = going_at (statement_goes_on closer q) (more_at e m q) j ts

  abbrev full_here : State → ℕ → ℕ → List Token → Read Found
  full_here q j i ts = run_here q j ts >>= λ held. mapped (with_items held.0) (statements_here i held.1)

  -- ---- one thing more in front

  abbrev item_first : Item → Found → Found
  item_first i f = ((i ∷ f.0.0, f.0.1), f.1)

  abbrev statement_first : Statement → Found → Found
  statement_first s f = (([], long s f.0.0 ∷ f.0.1), f.1)

  rows_item : (i : Item) (r : Read (List (Statement ⊎ Item) × Token)) → of_rows (mapped (λ (p : List (Statement ⊎ Item) × Token). (inr i ∷ p.0, p.1)) r) ≡ mapped (item_first i) (of_rows r)
  rows_item i (Ok x) = refl
  rows_item i (Err s) = refl

  rows_statement : (s : Statement) (r : Read (List (Statement ⊎ Item) × Token)) → of_rows (mapped (λ (p : List (Statement ⊎ Item) × Token). (inl s ∷ p.0, p.1)) r) ≡ mapped (statement_first s) (of_rows r)
  rows_statement s (Ok x) = refl
  rows_statement s (Err f) = refl

  twice : {X Y Z : Type 0} (f : Y → Z) (g : X → Y) (h : X → Z) → ((x : X) → f (g x) ≡ h x) → (r : Read X) → mapped f (mapped g r) ≡ mapped h r
  twice f g h same (Ok x) = ap (λ z. Ok (z, x.1)) (same x.0)
  twice f g h same (Err s) = refl

  full_item : (i : Item) (k : ℕ) (r : Read (List Item)) → (mapped (λ (l : List Item). i ∷ l) r >>= λ held. mapped (with_items held.0) (statements_here k held.1))
      ≡ mapped (item_first i) (r >>= λ held. mapped (with_items held.0) (statements_here k held.1))
  full_item i k (Ok x) = sym (twice (item_first i) (with_items x.0) (with_items (i ∷ x.0)) (λ p. refl) (statements_here k x.1))
  full_item i k (Err s) = refl

  -- a statement, and those behind it
  word_last : (s : Statement) (held : List Item) (rest : List Statement) (r : Read Token) → mapped (with_items []) (mapped (λ (t : Token). (long s held ∷ rest, t)) r)
      ≡ mapped (statement_first s) (mapped (with_items held) (mapped (λ (t : Token). (rest, t)) r))
  word_last s held rest (Ok t) = refl
  word_last s held rest (Err f) = refl

  statements_last : (s : Statement) (held : List Item) (r : Read (List Statement)) → mapped (with_items []) (paired (mapped (λ (l : List Statement). long s held ∷ l) r) (word_at W))
      ≡ mapped (statement_first s) (mapped (with_items held) (paired r (word_at W)))
  statements_last s held (Ok x) = word_last s held x.0 (word_at W x.1)
  statements_last s held (Err f) = refl

  items_last : (s : Statement) (k : ℕ) (r : Read (List Item)) → mapped (with_items []) (paired (mapped (long s) r >>= λ x. each_at B (statement_at closer o e m) k x.1 >>= λ y. Ok (x.0 ∷ y.0, y.1)) (word_at W))
      ≡ mapped (statement_first s) (r >>= λ held. mapped (with_items held.0) (statements_here k held.1))
  items_last s k (Ok x) = statements_last s x.0 (each_at B (statement_at closer o e m) k x.1)
  items_last s k (Err f) = refl

  no_statements : (r : Read Token) → of_rows (mapped (λ (t : Token). (let l : List (Statement ⊎ Item) = [] in (l, t))) r) ≡ mapped (with_items []) (mapped (λ (t : Token). (let l : List Statement = [] in (l, t))) r)
  no_statements (Ok t) = refl
  no_statements (Err s) = refl

  -- ---- what goes on where

  begins_goes : (q : State) (t : Token) (ts : List Token) → among B t ≡ true → goes_on (state_words B q) W (more_seconds closer q) (t ∷ ts) ≡ true
  begins_goes q t ts b = rw (apart_among B W t free b, state_first q) refl
    where
      state_first : (q : State) → among (state_words B q) t ≡ true
      state_first idle = b
      state_first events = rw (among-append B (more_words events) t, b) refl
      state_first multis = rw (among-append B (more_words multis) t, b) refl

  begins_no_more : (q : State) (t : Token) (ts : List Token) → among B t ≡ true → statement_goes_on closer q (t ∷ ts) ≡ false
  begins_no_more q t ts b = rw (apart_among B (more_words q) t (other q) b) refl

  same_goes : (q : State) (t : Token) (ts : List Token) → among B t ≡ false → goes_on (state_words B q) W (more_seconds closer q) (t ∷ ts) ≡ statement_goes_on closer q (t ∷ ts)
  same_goes idle t ts b = rw b refl
  same_goes events t ts b = rw (among-append B (more_words events) t, b) refl
  same_goes multis t ts b = rw (among-append B (more_words multis) t, b) refl

  first_of : (q : State) (t : Token) (ts : List Token) → statement_goes_on closer q (t ∷ ts) ≡ true → among (more_words q) t ≡ true
  first_of q t ts g = left (among (more_words q) t) (not (among W t) || starts (more_seconds closer q) ts) g
    where
      left : (a b : Bool) → (a && b) ≡ true → a ≡ true
      left true b g = refl
      left false b g = cc

  mixed_begins : (q : State) (t : Token) (ts : List Token) → among B t ≡ true → mixed_at B o e m q (t ∷ ts) ≡ mapped inl (o (t ∷ ts))
  mixed_begins idle t ts b = refl
  mixed_begins events t ts b = rw b refl
  mixed_begins multis t ts b = rw b refl

  mixed_more : (q : State) (t : Token) (ts : List Token) → among B t ≡ false → statement_goes_on closer q (t ∷ ts) ≡ true → mixed_at B o e m q (t ∷ ts) ≡ mapped inr (more_at e m q (t ∷ ts))
  mixed_more idle t ts b g = cc
  mixed_more events t ts b g = rw b refl
  mixed_more multis t ts b g = rw b refl

  abbrev Same : ℕ → Type 0
  Same k = (q : State) (ts : List Token) (j i : ℕ) → length ts ≤ k → length ts ≤ j → length ts ≤ i → of_rows (rows_here k q ts) ≡ full_here q j i ts

  on_begin : (k i : ℕ) (q : State) (j : ℕ) (t : Token) (ts : List Token) → Same k → length ts ≤ k → length ts ≤ i → among B t ≡ true → (x : Read Statement) → o (t ∷ ts) ≡ x
      → of_rows (rows_here (suc k) q (t ∷ ts)) ≡ full_here q (suc j) (suc i) (t ∷ ts)
  on_begin k i q j t ts again h g b (Err s) r = rw (begins_goes q t ts b, mixed_begins q t ts b, begins_no_more q t ts b, b, r) refl
  on_begin k i q j t ts again h g b (Ok x) r =
      let l = eats_o (t ∷ ts) x b r in
      rw (begins_goes q t ts b, mixed_begins q t ts b, begins_no_more q t ts b, b, r) (rows_statement x.0 (rows_here k (kind x.0) x.1)
      ∙ ap (mapped (statement_first x.0)) (again (kind x.0) x.1 (length x.1) i (omega (arith, l)) (omega arith) (omega (arith, l)))
      ∙ sym (items_last x.0 i (run_here (kind x.0) (length x.1) x.1)))

  on_more : (k i : ℕ) (q : State) (j : ℕ) (t : Token) (ts : List Token) → Same k → length ts ≤ k → length ts ≤ j → length (t ∷ ts) ≤ i → among B t ≡ false → statement_goes_on closer q (t ∷ ts) ≡ true
      → (x : Read Item) → more_at e m q (t ∷ ts) ≡ x → of_rows (rows_here (suc k) q (t ∷ ts)) ≡ full_here q (suc j) i (t ∷ ts)
  on_more k i q j t ts again h f g b n (Err s) r = rw (same_goes q t ts b ∙ n, mixed_more q t ts b n, n, r) refl
  on_more k i q j t ts again h f g b n (Ok x) r =
      let l = eats q (t ∷ ts) x (first_of q t ts n) r in
      rw (same_goes q t ts b ∙ n, mixed_more q t ts b n, n, r) (rows_item x.0 (rows_here k q x.1)
      ∙ ap (mapped (item_first x.0)) (again q x.1 j i (omega (arith, l)) (omega (arith, l)) (omega (arith, l)))
      ∙ sym (full_item x.0 i (run_here q j x.1)))

  on_word : (k i : ℕ) (q : State) (j : ℕ) (t : Token) (ts : List Token) → among B t ≡ false → statement_goes_on closer q (t ∷ ts) ≡ false → of_rows (rows_here (suc k) q (t ∷ ts)) ≡ full_here q (suc j) (suc i) (t ∷ ts)
  on_word k i q j t ts b n = rw (same_goes q t ts b ∙ n, n, b) (no_statements (word_at W (t ∷ ts)))

  pub same_loops : (k : ℕ) → Same k
  same_loops zero q [] j i h f g = none_left j i
    where
      none_left : (j i : ℕ) → of_rows (rows_here zero q []) ≡ full_here q j i []
      none_left zero zero = refl
      none_left zero (suc i) = refl
      none_left (suc j) zero = refl
      none_left (suc j) (suc i) = refl
  same_loops zero q (t ∷ ts) j i h f g = absurd (omega arith)
  same_loops (suc k) q [] j i h f g = none_left j i
    where
      none_left : (j i : ℕ) → of_rows (rows_here (suc k) q []) ≡ full_here q j i []
      none_left zero zero = refl
      none_left zero (suc i) = refl
      none_left (suc j) zero = refl
      none_left (suc j) (suc i) = refl
  same_loops (suc k) q (t ∷ ts) zero i h f g = absurd (omega arith)
  same_loops (suc k) q (t ∷ ts) (suc j) zero h f g = absurd (omega arith)
  same_loops (suc k) q (t ∷ ts) (suc j) (suc i) h f g = pick (same_loops k) (among B t) refl (statement_goes_on closer q (t ∷ ts)) refl
    where
      pick : Same k → (a : Bool) → among B t ≡ a → (b : Bool) → statement_goes_on closer q (t ∷ ts) ≡ b → of_rows (rows_here (suc k) q (t ∷ ts)) ≡ full_here q (suc j) (suc i) (t ∷ ts)
      pick again true a b n = on_begin k i q j t ts again (omega arith) (omega arith) a (o (t ∷ ts)) refl
      pick again false a true n = on_more k (suc i) q j t ts again (omega arith) (omega arith) (omega arith) a n (more_at e m q (t ∷ ts)) refl
      pick again false a false n = on_word k i q j t ts a n
