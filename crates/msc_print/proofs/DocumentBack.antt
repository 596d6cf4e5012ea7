-- A document that was read is written so that it reads back, wherever its tokens stand, with no more levels open.
use Rattle.std.proofs.Common.{ℕ, ◌≡◌, ◌∙◌, ◌++◌, true, List, [], ◌∷◌, Option, Some, None, map, refl, sym, ap, subst, inl, inr, append-nil, append_assoc, codes}
use Rattle.msc_tokens.specs.declared.token.Token.{Token}
use Rattle.msc_tokens.specs.Places.{first_place}
use Rattle.msc_tree.specs.declared.chart.Decl.{Decl}
use Rattle.msc_tree.specs.declared.chart.Heading.{Heading}
use Rattle.msc_tree.specs.Charts.{Chart, Content, Document, Basic, HighLevel}
use Rattle.msc_tree.specs.Statements.{Statement, statements}
use Rattle.token_grammar.specs.Languages.{just, texts}
use Rattle.token_grammar.specs.Languages as language
use Rattle.token_grammar.specs.Grammars.{Grammar, seq, behind}
use Rattle.token_grammar.specs.Parts.{name, ending, placed, separated, name_list}
use Rattle.msc_events.specs.Declarations.{heading, decl, decl_list, Head, of_decls, of_messages, of_timers, line, head, with_head, with_heads, declared_by}
use Rattle.msc_events.specs.declared.head_parts.Heads.{Heads}
use Rattle.msc_expression.specs.GraphGrammar.{chart_graph}
use Rattle.msc_document.specs.Inlines.{each}
use Rattle.msc_document.specs.DocumentGrammar.{statement, chart_end, content, chart_of, chart, perhaps, document}
use Rattle.msc_print.specs.Words.{Words, alone, all_words, each_behind, separated_words, end_words}
use Rattle.msc_print.specs.StatementWords.{decl_words, statement_words, statements_words}
use Rattle.msc_print.specs.ChartWords.{chart_words, closing_words, content_words, decl_head_words, document_words, head_list, name_head_words, opening_words}
use Rattle.msc_print.specs.Unplaced.{unplaced_chart, unplaced_content, unplaced_decl, without_places}
use Rattle.msc_print.proofs.Backs.{Back, Any, same, Filled, FitsFixed, cut, one_token, first_token, no_token, back_each, each_tidy, fits_set, back_seq, back_or, back_as, back_behind, back_placed, back_separated}
use Rattle.msc_print.proofs.Tidy.{Tidy, done, Proper, is_fixed, fixed_tidy, tidy_append, proper_append}
use Rattle.msc_print.proofs.PartsBack.{ending_back, name_back, names_back, heading_back, decl_back}
use Rattle.msc_print.proofs.GraphBack.{chart_graph_back}
use Rattle.msc_print.proofs.ItemsBack.{list_back, statement_back}

-- ---- heads

-- each of them was read
abbrev All_read : {A : Type 0} → Grammar A → List A → Type 0
All_read R [] = Unit {0}
All_read R (a ∷ ls) = ((x : List Token) × R.reads x a) × All_read R ls

joined_read : {A : Type 0} (R : Grammar A) (ls bs : List A) → All_read R ls → All_read R bs → All_read R (ls ++ bs)
joined_read R [] bs h k = k
joined_read R (a ∷ ls) bs h k = (h.0, joined_read R ls bs h.1 k)

-- behind a comma
others_read : {A : Type 0} (text : List ℕ) (R : Grammar A) (x : List Token) (ls : List A) → language.each (behind (just text) R).reads x ls → All_read R ls
others_read text R x [] h = tt
others_read text R x (a ∷ ls) h = ((h.3.1.1, subst (λ b. R.reads h.3.1.1 b) (sym h.3.2) h.3.1.4), others_read text R h.1 ls h.4)

list_read : {A : Type 0} (text : List ℕ) (R : Grammar A) (x : List Token) (ls : List A) → (separated text R).reads x ls → All_read R ls
list_read text R x ls h = subst (All_read R) (sym h.2) ((h.1.0, h.1.3), others_read text R h.1.1 h.0.1 h.1.4)

abbrev Heads_read : Heads → Type 0
Heads_read h = All_read decl h.decls × All_read name h.messages × All_read name h.timers

line_list : {A : Type 0} (text : List ℕ) (R : Grammar A) (x : List Token) (a : A) → (line text R).reads x a → (y : List Token) × R.reads y a
line_list text R x a h = (h.1.1.4.0, subst (λ b. R.reads h.1.1.4.0 b) (sym (h.2 ∙ ap (λ p. p.0) h.1.2)) h.1.1.4.3)

with_head_read : (prefix : Heads) (x : List Token) (one : Head) → Heads_read prefix → head.reads x one → Heads_read (with_head prefix one)
with_head_read prefix x one f (inl h) = subst (λ o. Heads_read (with_head prefix o)) (sym h.2) (let l = line_list (codes "inst") decl_list x h.0 h.1 in (joined_read decl prefix.decls h.0 f.0 (list_read (codes ",") decl l.0 h.0 l.1), f.1, f.2))
with_head_read prefix x one f (inr (inl h)) = subst (λ o. Heads_read (with_head prefix o)) (sym h.2) (let l = line_list (codes "msg") name_list x h.0 h.1 in (f.0, joined_read name prefix.messages h.0 f.1 (list_read (codes ",") name l.0 h.0 l.1), f.2))
with_head_read prefix x one f (inr (inr h)) = subst (λ o. Heads_read (with_head prefix o)) (sym h.2) (let l = line_list (codes "timer") name_list x h.0 h.1 in (f.0, f.1, joined_read name prefix.timers h.0 f.2 (list_read (codes ",") name l.0 h.0 l.1)))

with_heads_read : (prefix : Heads) (x : List Token) (hs : List Head) → Heads_read prefix → language.each head.reads x hs → Heads_read (with_heads prefix hs)
with_heads_read prefix x [] f h = f
with_heads_read prefix x (one ∷ hs) f h = with_heads_read (with_head prefix one) h.1 hs (with_head_read prefix h.0 one f h.3) h.4

-- the list's head, where it isn't empty
abbrev made : {A : Type 0} → (List A → Head) → List A → List Head
made mk [] = []
made mk (b ∷ bs) = mk (b ∷ bs) ∷ []

end_read : (z : List Token) → texts z ≡ end_words → ending.reads z tt
end_read z i =
    let c = one_token z (codes ";") i in
    let fits : language.among (just (codes ";")) c.0 ≡ true = rw c.2 refl in
    ((tt, c.0.bytes), ((None, c.0.bytes), inr (c.0.bytes, (c.0, (c.1, fits), refl), refl), refl), refl)

-- ---- lists whose items were read, one by one, read back as one list

module _ {A B : Type 0} (R : Grammar A) {P : A → Type 0} (w : A → Words) (f : A → B) (r : Back R P w f) where
  others_back : (ls : List A) → All_read R ls → (t : List Token) → texts t ≡ each_behind (codes ",") w ls → (bs : List A) × language.each (behind (just (codes ",")) R).reads t bs × (map f bs ≡ map f ls)
  others_back [] h t e = ([], no_token t e, refl)
  others_back (a ∷ ls) h t e =
      let m = first_token t (codes ",") (w a ++ each_behind (codes ",") w ls) e in
      let fits : language.among (just (codes ",")) m.0 ≡ true = rw m.3 refl in
      let c = cut m.1 (w a) (each_behind (codes ",") w ls) m.4 in
      let k = (r.back h.0.0 a h.0.1).1 c.0 c.3 in
      let l = others_back ls h.1 c.1 c.4 in
      (k.0 ∷ l.0, (m.0 ∷ c.0, c.1, m.2 ∙ ap (λ (z : List Token). m.0 ∷ z) c.2, ((m.0, k.0), (m.0 ∷ [], c.0, refl, (refl, fits), k.1), refl), l.1), rw (k.2, l.2) refl)

  one_list_back : (a : A) (ls : List A) → All_read R (a ∷ ls) → (t : List Token) → texts t ≡ separated_words (codes ",") w (a ∷ ls) → (bs : List A) × (separated (codes ",") R).reads t bs × Filled bs × (map f bs ≡ map f (a ∷ ls))
  one_list_back a ls h t e =
      let c = cut t (w a) (each_behind (codes ",") w ls) e in
      let k = (r.back h.0.0 a h.0.1).1 c.0 c.3 in
      let l = others_back ls h.1 c.1 c.4 in
      (k.0 ∷ l.0, ((k.0, l.0), (c.0, c.1, c.2, k.1, l.1), refl), tt, rw (k.2, l.2) refl)

  line_back : (text : List ℕ) → FitsFixed (just text) text → (a : A) (ls : List A) → All_read R (a ∷ ls) → (t : List Token) → texts t ≡ text ∷ (separated_words (codes ",") w (a ∷ ls) ++ end_words) →
      (bs : List A) × (line text (separated (codes ",") R)).reads t bs × Filled bs × (map f bs ≡ map f (a ∷ ls))
  line_back text is a ls h t e =
      let m = first_token t text (separated_words (codes ",") w (a ∷ ls) ++ end_words) e in
      let fits : language.among (just text) m.0 ≡ true = rw m.3 (fits_set (just text) text is) in
      let c = cut m.1 (separated_words (codes ",") w (a ∷ ls)) end_words m.4 in
      let k = one_list_back a ls h c.0 c.3 in
      let last = end_read c.1 c.4 in
      (k.0, ((k.0, tt), ((m.0, (k.0, tt)), (m.0 ∷ [], m.1, m.2, (refl, fits), (c.0, c.1, c.2, k.1, last)), refl), refl), k.2, k.3)

  head_back : (text : List ℕ) → FitsFixed (just text) text → (mk : List A → Head) → ((t : List Token) (bs : List A) → (line text (separated (codes ",") R)).reads t bs → head.reads t (mk bs)) → (ls : List A) → All_read R ls →
      (t : List Token) → texts t ≡ head_list text w ls → (bs : List A) × language.each head.reads t (made mk bs) × (map f bs ≡ map f ls)
  head_back text is mk reads [] h t e = ([], no_token t e, refl)
  head_back text is mk reads (a ∷ ls) h t e = let l = line_back text is a ls h t e in by l.0 l.1 l.2 l.3
    where
      by : (bs : List A) → (line text (separated (codes ",") R)).reads t bs → Filled bs → map f bs ≡ map f (a ∷ ls) → (cs : List A) × language.each head.reads t (made mk cs) × (map f cs ≡ map f (a ∷ ls))
      by [] k m i = absurd m
      by (b ∷ bs) k m i = (b ∷ bs, (t, [], sym (append-nil t), reads t (b ∷ bs) k, refl), i)

each_append : {A : Type 0} (R : language.Language A) (y z : List Token) (ls ms : List A) → language.each R y ls → language.each R z ms → language.each R (y ++ z) (ls ++ ms)
each_append R y z [] ms h k = subst (λ (t : List Token). language.each R t ms) (ap (λ (t : List Token). t ++ z) (sym h)) k
each_append R y z (l ∷ ls) ms h k = (h.0, h.1 ++ z, ap (λ (t : List Token). t ++ z) h.2 ∙ append_assoc h.0 h.1 z, h.3, each_append R h.1 z ls ms h.4 k)

abbrev three : List Decl → List (List ℕ) → List (List ℕ) → List Head
three ds ms ts = made of_decls ds ++ (made of_messages ms ++ made of_timers ts)

three_are : (ds : List Decl) (ms ts : List (List ℕ)) → declared_by (three ds ms ts) ≡ record { decls = ds; messages = ms; timers = ts }
three_are [] [] [] = refl
three_are [] [] (t ∷ ts) = refl
three_are [] (m ∷ ms) [] = refl
three_are [] (m ∷ ms) (t ∷ ts) = refl
three_are (d ∷ ds) [] [] = refl
three_are (d ∷ ds) [] (t ∷ ts) = refl
three_are (d ∷ ds) (m ∷ ms) [] = refl
three_are (d ∷ ds) (m ∷ ms) (t ∷ ts) = refl

abbrev heads_said : List Head → Words
heads_said hs = decl_head_words (declared_by hs).decls ++ (name_head_words (codes "msg") (declared_by hs).messages ++ name_head_words (codes "timer") (declared_by hs).timers)

abbrev unplaced_heads : Heads → Heads
unplaced_heads h = record { decls = map unplaced_decl h.decls; messages = h.messages; timers = h.timers }

abbrev heads_shown : List Head → Heads
heads_shown hs = unplaced_heads (declared_by hs)

map_same : {A : Type 0} (xs : List A) → map same xs ≡ xs
map_same [] = refl
map_same (x ∷ xs) = ap (λ l. x ∷ l) (map_same xs)

-- ---- of tokens of a text, the texts are tidy

each_behind_append : {A : Type 0} (text : List ℕ) (w : A → Words) (ls bs : List A) → each_behind text w (ls ++ bs) ≡ each_behind text w ls ++ each_behind text w bs
each_behind_append text w [] bs = refl
each_behind_append text w (a ∷ ls) bs = ap (λ (l : Words). text ∷ (w a ++ l)) (each_behind_append text w ls bs) ∙ ap (λ (l : Words). text ∷ l) (sym (append_assoc (w a) (each_behind text w ls) (each_behind text w bs)))

behind_tidy : {A : Type 0} (text : List ℕ) (w : A → Words) (bs : List A) → is_fixed text ≡ true → Tidy (separated_words text w bs) → Tidy (each_behind text w bs)
behind_tidy text w [] is h = done
behind_tidy text w (b ∷ bs) is h = fixed_tidy text (w b ++ each_behind text w bs) is h

-- the items of two lists, in one list
joined_tidy : {A : Type 0} (text : List ℕ) (w : A → Words) (ls bs : List A) → is_fixed text ≡ true → Tidy (separated_words text w ls) → Tidy (separated_words text w bs) → Tidy (separated_words text w (ls ++ bs))
joined_tidy text w [] bs is h k = k
joined_tidy text w (a ∷ ls) bs is h k =
    let whole = tidy_append (w a ++ each_behind text w ls) (each_behind text w bs) h (behind_tidy text w bs is k) in
    let parts : w a ++ each_behind text w (ls ++ bs) ≡ (w a ++ each_behind text w ls) ++ each_behind text w bs = ap (λ (l : Words). w a ++ l) (each_behind_append text w ls bs) ∙ sym (append_assoc (w a) (each_behind text w ls) (each_behind text w bs)) in
    subst Tidy (sym parts) whole

line_tidy : {A B : Type 0} (text : List ℕ) (R : Grammar A) {P : A → Type 0} {w : A → Words} {f : A → B} → Back R P w f → (x : List Token) (a : A) → (line text R).reads x a → Proper x → Tidy (w a)
line_tidy text R {w = w} r x a h proper =
    let c = h.1.1 in
    let known = proper_append c.0 c.1 (subst Proper c.2 proper) in
    let list = c.4 in
    let deeper = proper_append list.0 list.1 (subst Proper list.2 known.1) in
    let value = h.2 ∙ ap (λ p. p.0) h.1.2 in
    subst Tidy (sym (ap w value)) (r.tidy list.0 h.1.0.1.0 list.3 deeper.0)

decls_back : Back decl_list Filled (separated_words (codes ",") decl_words) (map unplaced_decl)
decls_back = back_separated (codes ",") decl refl decl_back

abbrev HeadsTidy : Heads → Type 0
HeadsTidy h = Tidy (separated_words (codes ",") decl_words h.decls) × Tidy (separated_words (codes ",") alone h.messages) × Tidy (separated_words (codes ",") alone h.timers)

with_head_tidy : (prefix : Heads) (x : List Token) (one : Head) → HeadsTidy prefix → head.reads x one → Proper x → HeadsTidy (with_head prefix one)
with_head_tidy prefix x one f (inl h) proper = subst (λ o. HeadsTidy (with_head prefix o)) (sym h.2) (joined_tidy (codes ",") decl_words prefix.decls h.0 refl f.0 (line_tidy (codes "inst") decl_list decls_back x h.0 h.1 proper), f.1, f.2)
with_head_tidy prefix x one f (inr (inl h)) proper = subst (λ o. HeadsTidy (with_head prefix o)) (sym h.2) (f.0, joined_tidy (codes ",") alone prefix.messages h.0 refl f.1 (line_tidy (codes "msg") name_list names_back x h.0 h.1 proper), f.2)
with_head_tidy prefix x one f (inr (inr h)) proper = subst (λ o. HeadsTidy (with_head prefix o)) (sym h.2) (f.0, f.1, joined_tidy (codes ",") alone prefix.timers h.0 refl f.2 (line_tidy (codes "timer") name_list names_back x h.0 h.1 proper))

with_heads_tidy : (prefix : Heads) (x : List Token) (hs : List Head) → HeadsTidy prefix → language.each head.reads x hs → Proper x → HeadsTidy (with_heads prefix hs)
with_heads_tidy prefix x [] f h proper = f
with_heads_tidy prefix x (one ∷ hs) f h proper =
    let known = proper_append h.0 h.1 (subst Proper h.2 proper) in
    with_heads_tidy (with_head prefix one) h.1 hs (with_head_tidy prefix h.0 one f h.3 known.0) h.4 known.1

end_tidy : Tidy end_words
end_tidy = fixed_tidy (codes ";") [] refl done

head_tidy : {A : Type 0} (text : List ℕ) (w : A → Words) (ls : List A) → is_fixed text ≡ true → Tidy (separated_words (codes ",") w ls) → Tidy (head_list text w ls)
head_tidy text w [] is h = done
head_tidy text w (a ∷ ls) is h = fixed_tidy text (separated_words (codes ",") w (a ∷ ls) ++ end_words) is (tidy_append (separated_words (codes ",") w (a ∷ ls)) end_words h end_tidy)

heads_tidy : (x : List Token) (hs : List Head) → language.each head.reads x hs → Proper x → Tidy (heads_said hs)
heads_tidy x hs h proper =
    let known = with_heads_tidy (record { decls = []; messages = []; timers = [] }) x hs (done, done, done) h proper in
    let held = declared_by hs in
    tidy_append (decl_head_words held.decls) (name_head_words (codes "msg") held.messages ++ name_head_words (codes "timer") held.timers) (head_tidy (codes "inst") decl_words held.decls refl known.0)
    (tidy_append (name_head_words (codes "msg") held.messages) (name_head_words (codes "timer") held.timers) (head_tidy (codes "msg") alone held.messages refl known.1) (head_tidy (codes "timer") alone held.timers refl known.2))

heads_back : Back (each head) Any heads_said heads_shown
heads_back = record { back = read; tidy = heads_tidy }
  where
    read : (x : List Token) (hs : List Head) → language.each head.reads x hs → Any hs × ((t : List Token) → texts t ≡ heads_said hs → (gs : List Head) × language.each head.reads t gs × (heads_shown gs ≡ heads_shown hs))
    read x hs h =
        let known = with_heads_read (record { decls = []; messages = []; timers = [] }) x hs (tt, tt, tt) h in
        let held = declared_by hs in (
          tt,
          λ t e.
              let c = cut t (decl_head_words held.decls) (name_head_words (codes "msg") held.messages ++ name_head_words (codes "timer") held.timers) e in
              let k = cut c.1 (name_head_words (codes "msg") held.messages) (name_head_words (codes "timer") held.timers) c.4 in
              let ds = head_back decl decl_words unplaced_decl decl_back (codes "inst") refl of_decls (λ z bs r. inl (bs, r, refl)) held.decls known.0 c.0 c.3 in
              let ms = head_back name alone same name_back (codes "msg") refl of_messages (λ z bs r. inr (inl (bs, r, refl))) held.messages known.1 k.0 k.3 in
              let ts = head_back name alone same name_back (codes "timer") refl of_timers (λ z bs r. inr (inr (bs, r, refl))) held.timers known.2 k.1 k.4 in
              let split : t ≡ c.0 ++ (k.0 ++ k.1) = c.2 ∙ ap (λ (z : List Token). c.0 ++ z) k.2 in (
                three ds.0 ms.0 ts.0,
                subst (λ (z : List Token). language.each head.reads z (three ds.0 ms.0 ts.0)) (sym split)
                    (each_append head.reads c.0 (k.0 ++ k.1) (made of_decls ds.0) (made of_messages ms.0 ++ made of_timers ts.0) ds.1 (each_append head.reads k.0 k.1 (made of_messages ms.0) (made of_timers ts.0) ms.1 ts.1)),
                ap unplaced_heads (three_are ds.0 ms.0 ts.0) ∙ all_three (map unplaced_decl ds.0) (map unplaced_decl held.decls) ms.0 held.messages ts.0 held.timers ds.2 (sym (map_same ms.0) ∙ ms.2 ∙ map_same held.messages) (sym (map_same ts.0) ∙ ts.2 ∙ map_same held.timers),
              ),
        )
      where
        all_three : (a b : List Decl) (c d e f : List (List ℕ)) → a ≡ b → c ≡ d → e ≡ f → ◌≡◌ {A = Heads} (record { decls = a; messages = c; timers = e }) (record { decls = b; messages = d; timers = f })
        all_three a b c d e f p q r = cc

-- ---- charts

chart_end_back : Back chart_end Any (λ u. codes "endmsc" ∷ end_words) same
chart_end_back = back_behind (just (codes "endmsc")) (codes "endmsc") ending refl ending_back

listed_are : (ss : List Statement) → statements_words (statements ss) ≡ all_words statement_words ss
listed_are [] = refl
listed_are (s ∷ ss) = ap (λ (w : Words). statement_words s ++ w) (listed_are ss)

abbrev content_said : Content → Words
content_said c = content_words c ++ codes "endmsc" ∷ end_words

content_back : (n : ℕ) → Back (content n) Any content_said unplaced_content
content_back n = back_or _ _
    (back_as (λ p. Basic p.0) (seq (each (statement n)) chart_end) Any content_said unplaced_content (λ c. Basic c.0) (back_seq (each (statement n)) chart_end (list_back (statement n) (statement_back n)) chart_end_back)
    (λ p m. tt) (λ p m. ap (λ (w : Words). w ++ codes "endmsc" ∷ end_words) (listed_are p.0)) (λ p. refl))
    (back_as (λ p. HighLevel p.0) (chart_graph n chart_end) Any content_said unplaced_content (λ c. HighLevel c.0) (chart_graph_back n chart_end chart_end_back) (λ p m. tt) (λ p m. refl) (λ p. refl))

abbrev chart_as : List ℕ × (Unit {0} × (Heads × Content)) → Chart
chart_as c = record { name = c.0; place = first_place; decls = c.1.1.0.decls; messages = c.1.1.0.messages; timers = c.1.1.0.timers; content = c.1.1.1 }

chart_back : (n : ℕ) → Back (chart n) Any chart_words unplaced_chart
chart_back n = back_as (λ p. chart_of p.0 p.1.0 (declared_by p.1.1.1.0) p.1.1.1.1) (placed (just (codes "msc")) (seq name (seq ending (seq (each head) (content n))))) Any chart_words unplaced_chart chart_as
    (back_placed (just (codes "msc")) (codes "msc") (seq name (seq ending (seq (each head) (content n)))) refl (back_seq name (seq ending (seq (each head) (content n))) name_back (back_seq ending (seq (each head) (content n)) ending_back (back_seq (each head) (content n) heads_back (content_back n)))))
    (λ p m. tt) (λ p m. refl) (λ p. refl)

-- ---- documents

perhaps_back : (x : List Token) (o : Option Heading) → (perhaps heading).reads x o → (t : List Token) → texts t ≡ opening_words o → (p : Option Heading) × (perhaps heading).reads t p × (p ≡ o)
perhaps_back x o (inl h) t e = (None, inl (no_token t (e ∙ ap opening_words h.1), refl), sym h.1)
perhaps_back x o (inr h) t e =
    let back = (heading_back.back x h.0 h.1).1 t (e ∙ ap opening_words h.2) in
    (Some back.0, inr (back.0, back.1, refl), ap Some back.2 ∙ sym h.2)

abbrev closed_by : Grammar (Unit {0})
closed_by = behind (just (codes "endmscdocument")) ending

closing_back : (o : Option Heading) (t : List Token) → texts t ≡ closing_words o → (u : Option (Unit {0})) × (perhaps closed_by).reads t u
closing_back None t e = (None, inl (no_token t e, refl))
closing_back (Some h) t e =
    let k = first_token t (codes "endmscdocument") end_words e in
    let fits : language.among (just (codes "endmscdocument")) k.0 ≡ true = rw k.3 refl in
    (Some tt, inr (tt, ((k.0, tt), (k.0 ∷ [], k.1, k.2, (refl, fits), end_read k.1 k.4), refl), refl))

pub document_back : (n : ℕ) (x : List Token) (d : Document) → (document n).reads x d → (t : List Token) → texts t ≡ document_words d → (e : Document) × (document n).reads t e × (without_places e ≡ without_places d)
document_back n x d h t e =
    let p = h.0 in
    let rest = h.1.4 in
    let heads = ap (λ (z : Document). z.heading) h.2 in
    let charts = ap (λ (z : Document). z.charts) h.2 in
    let c = cut t (opening_words d.heading) (all_words chart_words d.charts ++ closing_words d.heading) e in
    let k = cut c.1 (all_words chart_words d.charts) (closing_words d.heading) c.4 in
    let first = perhaps_back h.1.0 p.0 h.1.3 c.0 (c.3 ∙ ap opening_words heads) in
    let middle = back_each (chart n) (chart_back n) rest.0 p.1.0 rest.3 k.0 (k.3 ∙ ap (all_words chart_words) charts) in
    let last = closing_back d.heading k.1 k.4 in (
      record { heading = first.0; charts = middle.0 },
      ((first.0, (middle.0, last.0)), (c.0, c.1, c.2, first.1, (k.0, k.1, k.2, middle.1, last.1)), refl),
      whole first.0 d.heading (map unplaced_chart middle.0) (map unplaced_chart d.charts) (first.2 ∙ sym heads) (middle.2 ∙ sym (ap (map unplaced_chart) charts)),
    )
  where
    whole : (a b : Option Heading) (c f : List Chart) → a ≡ b → c ≡ f → ◌≡◌ {A = Document} (record { heading = a; charts = c }) (record { heading = b; charts = f })
    whole a b c f i j = cc

-- ---- the texts of a document

opening_tidy : (x : List Token) (o : Option Heading) → (perhaps heading).reads x o → Proper x → Tidy (opening_words o)
opening_tidy x o (inl h) proper = subst Tidy (sym (ap opening_words h.1)) done
opening_tidy x o (inr h) proper = subst Tidy (sym (ap opening_words h.2)) (heading_back.tidy x h.0 h.1 proper)

closing_tidy : (o : Option Heading) → Tidy (closing_words o)
closing_tidy None = done
closing_tidy (Some h) = fixed_tidy (codes "endmscdocument") end_words refl end_tidy

-- the texts of what tokens of a text read as are tidy
pub document_tidy : (n : ℕ) (x : List Token) (d : Document) → (document n).reads x d → Proper x → Tidy (document_words d)
document_tidy n x d h proper =
    let known = proper_append h.1.0 h.1.1 (subst Proper h.1.2 proper) in
    let rest = h.1.4 in
    let parts = proper_append rest.0 rest.1 (subst Proper rest.2 known.1) in
    let heads = ap (λ (z : Document). z.heading) h.2 in
    let charts = ap (λ (z : Document). z.charts) h.2 in
    let first = subst Tidy (sym (ap opening_words heads)) (opening_tidy h.1.0 h.0.0 h.1.3 known.0) in
    let middle = subst Tidy (sym (ap (all_words chart_words) charts)) (each_tidy (chart n) (chart_back n) rest.0 h.0.1.0 rest.3 parts.0) in
    tidy_append (opening_words d.heading) (all_words chart_words d.charts ++ closing_words d.heading) first (tidy_append (all_words chart_words d.charts) (closing_words d.heading) middle (closing_tidy d.heading))
