-- Statements outside columns: a beginning with its first item, and the items that go on with it.
use Rattle.std.proofs.Common.{ℕ, ◌≡◌, ◌∙◌, ◌++◌, List, [], ◌∷◌, refl, sym, ap, inl, inr, subst, Option, codes}
use Rattle.msc_base.specs.declared.place.Place.{Place}
use Rattle.msc_tokens.specs.declared.token.Token.{Token}
use Rattle.msc_tree.specs.declared.chart.Cover.TheVariants.{All, Listed}
use Rattle.msc_tree.specs.Statements.{Item, Statement, Column, Covered, Heading, Ended, items, item_list}
use Rattle.token_grammar.specs.Languages.{Set, just}
use Rattle.token_grammar.specs.Grammars.{Grammar, seq, or, read_as, word, behind}
use Rattle.token_grammar.specs.Parts.{ending, lead, name_list}
use Rattle.msc_events.specs.Declarations.{declaration}
use Rattle.msc_document.specs.DocumentGrammar.{LedLine, happen, list, declare, finish, lead_statement, covered_of, some}
use Rattle.msc_document.specs.DocumentReaders.{State, idle, events, multis, cover_kind, kind, long}
use Rattle.msc_document.proofs.Continued.{nothing, Continued, some_continued, seq_continued, or_continued, as_continued, whole_continued}

pub same_kind : (s : Statement) (more : List Item) → kind (long s more) ≡ kind s
same_kind (Column decl held) more = refl
same_kind (Covered cover held) more = refl
same_kind (Heading decl) more = refl
same_kind (Ended instance_name) more = refl

list_items : (held : List Item) → item_list (items held) ≡ held
list_items [] = refl
list_items (i ∷ held) = ap (λ l. i ∷ l) (list_items held)

abbrev one : {A : Type 0} → Grammar A → Grammar (List A)
one R = read_as (λ a. a ∷ []) R

-- the beginning, with one item
abbrev pub opening_of : Grammar Item → Grammar Item → Grammar Statement
opening_of E M = covered_of (read_as (λ a. a ∷ []) E) (read_as (λ a. a ∷ []) M)

-- behind a word
behind_continued : {A B : Type 0} (w : Set) (L S : Grammar A) (N : A → Grammar B) (longer : A → List B → A) → Continued L S N longer → Continued (behind w L) (behind w S) N longer
behind_continued w L S N longer c = as_continued (λ p. p.1) (seq (word w) L) (seq (word w) S) (λ p. N p.1) (λ p bs. (p.0, longer p.1 bs)) N longer (λ x a h. refl) (λ x a bs h. refl) (seq_continued (word w) L S N longer c)

module _ (E M : Grammar Item) where
  abbrev pub more : State → Grammar Item
  more idle = nothing
  more events = E
  more multis = M

  abbrev line_more : LedLine → Grammar Item
  line_more (happen held) = E
  line_more (list names held) = M
  line_more (declare d) = nothing
  line_more finish = nothing

  abbrev line_long : LedLine → List Item → LedLine
  line_long (happen held) more = happen (held ++ more)
  line_long (list names held) more = list names (held ++ more)
  line_long (declare d) more = declare d
  line_long finish more = finish

  abbrev colon_lines : Grammar (List Item) → Grammar LedLine
  colon_lines EE = or (read_as happen EE) (or (read_as declare declaration) (read_as (λ e. finish) (behind (just (codes "endinstance")) ending)))

  abbrev list_lines : Grammar (List Item) → Grammar LedLine
  list_lines MM = read_as (λ p. list p.0 p.1) (behind (just (codes ",")) (seq name_list (behind (just (codes ":")) MM)))

  abbrev lines : Grammar (List Item) → Grammar (List Item) → Grammar LedLine
  lines EE MM = or (behind (just (codes ":")) (colon_lines EE)) (list_lines MM)

  colon_continued : Continued (colon_lines (some E)) (colon_lines (one E)) line_more line_long
  colon_continued = or_continued (read_as happen (some E)) (read_as happen (one E)) (or (read_as declare declaration) (read_as (λ e. finish) (behind (just (codes "endinstance")) ending)))
      (or (read_as declare declaration) (read_as (λ e. finish) (behind (just (codes "endinstance")) ending))) line_more line_long
      (as_continued happen (some E) (one E) (λ l. E) (λ l bs. l ++ bs) line_more line_long (λ x a h. refl) (λ x a bs h. refl) (some_continued E))
      (or_continued (read_as declare declaration) (read_as declare declaration) (read_as (λ e. finish) (behind (just (codes "endinstance")) ending)) (read_as (λ e. finish) (behind (just (codes "endinstance")) ending)) line_more line_long
      (as_continued declare declaration declaration (λ l. nothing) (λ l bs. l) line_more line_long (λ x a h. refl) (λ x a bs h. refl) (whole_continued declaration))
      (as_continued (λ e. finish) (behind (just (codes "endinstance")) ending) (behind (just (codes "endinstance")) ending) (λ l. nothing) (λ l bs. l) line_more line_long (λ x a h. refl) (λ x a bs h. refl) (whole_continued (behind (just (codes "endinstance")) ending))))

  multis_continued : Continued (behind (just (codes ":")) (some M)) (behind (just (codes ":")) (one M)) (λ l. M) (λ l bs. l ++ bs)
  multis_continued = behind_continued (just (codes ":")) (some M) (one M) (λ l. M) (λ l bs. l ++ bs) (some_continued M)

  list_continued : Continued (list_lines (some M)) (list_lines (one M)) line_more line_long
  list_continued = as_continued (λ p. list p.0 p.1) (behind (just (codes ",")) (seq name_list (behind (just (codes ":")) (some M)))) (behind (just (codes ",")) (seq name_list (behind (just (codes ":")) (one M))))
      (λ p. M) (λ p bs. (p.0, p.1 ++ bs)) line_more line_long (λ x a h. refl) (λ x a bs h. refl)
      (behind_continued (just (codes ",")) (seq name_list (behind (just (codes ":")) (some M))) (seq name_list (behind (just (codes ":")) (one M))) (λ p. M) (λ p bs. (p.0, p.1 ++ bs))
      (seq_continued name_list (behind (just (codes ":")) (some M)) (behind (just (codes ":")) (one M)) (λ l. M) (λ l bs. l ++ bs) multis_continued))

  lines_continued : Continued (lines (some E) (some M)) (lines (one E) (one M)) line_more line_long
  lines_continued = or_continued (behind (just (codes ":")) (colon_lines (some E))) (behind (just (codes ":")) (colon_lines (one E))) (list_lines (some M)) (list_lines (one M)) line_more line_long
      (behind_continued (just (codes ":")) (colon_lines (some E)) (colon_lines (one E)) line_more line_long colon_continued) list_continued

  -- the state behind a line's beginning is that of the line
  named : (x : List Token) (names : List (List ℕ)) → name_list.reads x names → (n : List ℕ) × (ns : List (List ℕ)) × (names ≡ n ∷ ns)
  named x names h = (h.0.0, h.0.1, h.2)

  no_list : (names : List (List ℕ)) (held : List Item) (x : List Token) (l : LedLine) → (colon_lines (one E)).reads x l → list names held ≡ l → ⊥
  no_list names held x l (inl h) q = not_happening h.0 (q ∙ h.2)
    where
      not_happening : (a : List Item) → list names held ≡ happen a → ⊥
      not_happening a q = cc
  no_list names held x l (inr (inl h)) q = not_declared h.0 (q ∙ h.2)
    where
      not_declared : (a : List (List ℕ) × Option (Place × List ℕ)) → list names held ≡ declare a → ⊥
      not_declared a q = cc
  no_list names held x l (inr (inr h)) q = not_finished (q ∙ h.2)
    where
      not_finished : list names held ≡ finish → ⊥
      not_finished q = cc

  list_names : (a b : List (List ℕ)) (k l : List Item) → list a k ≡ list b l → a ≡ b
  list_names a b k l q = cc

  list_state : (x : List Token) (at : List ℕ × Place) (names : List (List ℕ)) (held : List Item) → (lines (one E) (one M)).reads x (list names held) → more (cover_kind (Listed (at.0 ∷ names))) ≡ M
  list_state x at names held (inl h) = absurd (no_list names held h.1.1 h.0.1 h.1.4 h.2)
  list_state x at names held (inr h) =
      let g = h.1 in
      let k = g.1.4 in
      let n = named k.0 g.0.1.0 k.3 in
      subst (λ (l : List (List ℕ)). more (cover_kind (Listed (at.0 ∷ l))) ≡ M) (sym (list_names names h.0.0 held h.0.1 h.2 ∙ ap (λ (p : List (List ℕ) × List Item). p.0) g.2 ∙ n.2)) refl

  state_of_line : (x : List Token) (at : List ℕ × Place) (l : LedLine) → (lines (one E) (one M)).reads x l → more (kind (lead_statement at l)) ≡ line_more l
  state_of_line x at (happen held) h = refl
  state_of_line x at (list names held) h = list_state x at names held h
  state_of_line x at (declare d) h = refl
  state_of_line x at finish h = refl

  long_of_line : (at : List ℕ × Place) (l : LedLine) (bs : List Item) → long (lead_statement at l) bs ≡ lead_statement at (line_long l bs)
  long_of_line at (happen held) bs = ap (λ k. Covered (Listed (at.0 ∷ [])) (items (k ++ bs))) (list_items held)
  long_of_line at (list names held) bs = ap (λ k. Covered (Listed (at.0 ∷ names)) (items (k ++ bs))) (list_items held)
  long_of_line at (declare d) bs = refl
  long_of_line at finish bs = refl

  pub covered_continued : Continued (covered_of (some E) (some M)) (opening_of E M) (λ s. more (kind s)) long
  covered_continued = or_continued (read_as (λ p. lead_statement p.0 p.1) (seq lead (lines (some E) (some M)))) (read_as (λ p. lead_statement p.0 p.1) (seq lead (lines (one E) (one M))))
      (read_as (λ held. Covered All (items held)) (behind (just (codes "all")) (behind (just (codes ":")) (some M)))) (read_as (λ held. Covered All (items held)) (behind (just (codes "all")) (behind (just (codes ":")) (one M))))
      (λ s. more (kind s)) long
      (as_continued (λ p. lead_statement p.0 p.1) (seq lead (lines (some E) (some M))) (seq lead (lines (one E) (one M))) (λ p. line_more p.1) (λ p bs. (p.0, line_long p.1 bs)) (λ s. more (kind s)) long
      (λ x a h. state_of_line h.1 a.0 a.1 h.4) (λ x a bs h. long_of_line a.0 a.1 bs) (seq_continued lead (lines (some E) (some M)) (lines (one E) (one M)) line_more line_long lines_continued))
      (as_continued (λ held. Covered All (items held)) (behind (just (codes "all")) (behind (just (codes ":")) (some M))) (behind (just (codes "all")) (behind (just (codes ":")) (one M))) (λ l. M) (λ l bs. l ++ bs) (λ s. more (kind s)) long
      (λ x a h. refl) (λ x a bs h. ap (λ k. Covered All (items (k ++ bs))) (list_items a)) (behind_continued (just (codes "all")) (behind (just (codes ":")) (some M)) (behind (just (codes ":")) (one M)) (λ l. M) (λ l bs. l ++ bs) multis_continued))
