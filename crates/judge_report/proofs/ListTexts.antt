-- What is told of a list is its text.
use Rattle.std.proofs.Common.{◌≡◌, ◌<◌, ◌+◌, ◌∙◌, ℕ, Bool, true, false, List, [], ◌∷◌, ◌++◌, codes, length, map, flat_map, take, get_or, refl, sym, ap, append_assoc}
use Rattle.std.proofs.lemmas.Bool.{and_parts}
use Rattle.std.proofs.lemmas.List.{flat_map_more, take_more}
use Rattle.std.specs.Fmt.{decimal}
use Rattle.std.specs.List.{list_all}
use Rattle.serde_json.specs.Data.{Data, number, unsigned, string, object, member, no_members}
use Rattle.serde_json.specs.View.{items_of}
use Rattle.serde_json.specs.Written.{compact_text, has_float, items_have_float, items_text}
use Rattle.serde_json.proofs.OnLiterals.{serde_json_on_literals}
use Rattle.msc_tree.specs.declared.chart.Decl.{Decl}
use Rattle.chart_lists.specs.Listing.{is_graph_of, listed_of}
use Rattle.msc_meaning.specs.Tables.{ChartEntry, Table}
use Rattle.msc_meaning.specs.Views.{entry_view, table_view}
use Rattle.msc_meaning.specs.declared.body.ChartEntry as code
use Rattle.judge_report.specs.Lists.{array_data, chart_data, chart_json, chart_line, chart_list, instance_data, instance_json, instance_list, kind_word, separated}
use Rattle.judge_report.specs.Texts.{needs_no_escape}
use Rattle.judge_report.proofs.PlainWords.{quoted_plain}

-- one item more
pub more_items : {X : Type 0} (text : X → List ℕ) (xs : List X) (i : ℕ) (x : X) (old new : List ℕ) → i < length xs → x ≡ get_or xs i x → old ≡ flat_map text (take i xs) → new ≡ old ++ text x
    → new ≡ flat_map text (take (i + 1) xs)
more_items text xs i x old new lt is o n =
    n ∙ ap (λ t. t ++ text x) o ∙ flat_map_more text [] (take i xs) x
    ∙ ap (λ y. flat_map text (take i xs ++ y ∷ [])) is ∙ ap (λ ys. flat_map text ys) (sym (take_more xs i x lt))

-- ---- the text of an array

module _ {X : Type 0} (shown : X → Data) (text : X → List ℕ) (plain : X → Bool) (same : (x : X) → plain x ≡ true → compact_text (shown x) ≡ text x) where
  items_shown : (xs : List X) → list_all plain xs ≡ true → items_text false (items_of (map shown xs)) ≡ separated (map text xs) ++ 93 ∷ []
  items_shown [] h = refl
  items_shown (x ∷ []) h = ap (λ t. t ++ 93 ∷ []) (same x (and_parts (plain x) true h).0)
  items_shown (x ∷ y ∷ ys) h =
      let parts = and_parts (plain x) (list_all plain (y ∷ ys)) h in
      ap (λ t. t ++ 44 ∷ items_text false (items_of (map shown (y ∷ ys)))) (same x parts.0)
      ∙ ap (λ t. text x ++ 44 ∷ t) (items_shown (y ∷ ys) parts.1)
      ∙ sym (append_assoc (text x) (44 ∷ separated (map text (y ∷ ys))) (93 ∷ []))

no_float_among : {X : Type 0} (shown : X → Data) → ((x : X) → has_float (shown x) ≡ false) → (xs : List X) → items_have_float (items_of (map shown xs)) ≡ false
no_float_among shown none [] = refl
no_float_among shown none (x ∷ xs) = rw (none x) (no_float_among shown none xs)

closed : (text : List ℕ) → ((text ++ 93 ∷ []) ++ 125 ∷ []) ++ 10 ∷ [] ≡ text ++ 93 ∷ 125 ∷ 10 ∷ []
closed text = append_assoc (text ++ 93 ∷ []) (125 ∷ []) (10 ∷ []) ∙ append_assoc text (93 ∷ []) (125 ∷ 10 ∷ [])

-- ---- charts

chart_object : (count : ℕ) (graph : Bool) (name : List ℕ) → needs_no_escape name ≡ true
    → compact_text (object (member (codes "instances") (number (unsigned count)) (member (codes "kind") (string (kind_word graph)) (member (codes "name") (string name) no_members))))
    ≡ codes "{\"instances\":" ++ (decimal count ++ (codes ",\"kind\":\"" ++ (kind_word graph ++ (codes "\",\"name\":\"" ++ (name ++ codes "\"}")))))
unfolding serde_json_on_literals
chart_object count false name h =
    ap (λ t. codes "{\"instances\":" ++ (decimal count ++ (codes ",\"kind\":\"basic\",\"name\":" ++ (t ++ 125 ∷ [])))) (quoted_plain name h)
    ∙ ap (λ t. codes "{\"instances\":" ++ (decimal count ++ (codes ",\"kind\":\"basic\",\"name\":\"" ++ t))) (append_assoc name (34 ∷ []) (125 ∷ []))
chart_object count true name h =
    ap (λ t. codes "{\"instances\":" ++ (decimal count ++ (codes ",\"kind\":\"graph\",\"name\":" ++ (t ++ 125 ∷ [])))) (quoted_plain name h)
    ∙ ap (λ t. codes "{\"instances\":" ++ (decimal count ++ (codes ",\"kind\":\"graph\",\"name\":\"" ++ t))) (append_assoc name (34 ∷ []) (125 ∷ []))

chart_shown : (table : Table) (c : ChartEntry) → needs_no_escape c.name ≡ true → compact_text (chart_data table c) ≡ chart_json table c
chart_shown table c h = chart_object (length (listed_of table c)) (is_graph_of c) c.name h

-- charts as the code has them, and as they are listed
viewed : {X Y A : Type 0} (f : Y → A) (g : X → Y) (xs : List X) → map (λ x. f (g x)) xs ≡ map f (map g xs)
viewed f g [] = refl
viewed {A = A} f g (x ∷ xs) = ap (λ (ys : List A). f (g x) ∷ ys) (viewed f g xs)

pub lines_shown : (table : Table) (charts : List code.ChartEntry) → flat_map (λ c. chart_line table (entry_view c)) charts ≡ flat_map (chart_line table) (table_view charts)
lines_shown table [] = refl
lines_shown table (c ∷ charts) = ap (λ t. chart_line table (entry_view c) ++ t) (lines_shown table charts)

charts_text : (charts : List code.ChartEntry) → list_all (λ c. needs_no_escape c.name) charts ≡ true
    → compact_text (array_data (codes "charts") (map (λ c. chart_data (table_view charts) (entry_view c)) charts)) ++ 10 ∷ [] ≡ chart_list true (table_view charts)
unfolding serde_json_on_literals
charts_text charts h =
    ap (λ t. codes "{\"charts\":[" ++ ((t ++ 125 ∷ []) ++ 10 ∷ [])) (items_shown (λ c. chart_data (table_view charts) (entry_view c)) (λ c. chart_json (table_view charts) (entry_view c)) (λ c. needs_no_escape c.name) (λ c p. chart_shown (table_view charts) (entry_view c) p) charts h)
    ∙ ap (λ t. codes "{\"charts\":[" ++ t) (closed (separated (map (λ c. chart_json (table_view charts) (entry_view c)) charts)))
    ∙ ap (λ ts. codes "{\"charts\":[" ++ (separated ts ++ codes "]}\n")) (viewed (chart_json (table_view charts)) entry_view charts)

pub charts_shown : (value : Data) (held : List Data) (charts : List code.ChartEntry) → list_all (λ c. needs_no_escape c.name) charts ≡ true → held ≡ map (λ c. chart_data (table_view charts) (entry_view c)) charts
    → value ≡ array_data (codes "charts") held → compact_text value ++ 10 ∷ [] ≡ chart_list true (table_view charts)
charts_shown value held charts h are is =
    ap (λ d. compact_text d ++ 10 ∷ []) is ∙ ap (λ ds. compact_text (array_data (codes "charts") ds) ++ 10 ∷ []) are ∙ charts_text charts h

pub charts_no_float : (value : Data) (held : List Data) (charts : List code.ChartEntry) → held ≡ map (λ c. chart_data (table_view charts) (entry_view c)) charts → value ≡ array_data (codes "charts") held → has_float value ≡ false
charts_no_float value held charts are is = rw (is, are) rw (no_float_among (λ (c : code.ChartEntry). chart_data (table_view charts) (entry_view c)) (λ c. refl) charts) refl

-- ---- instances

instance_shown : (d : Decl) → needs_no_escape d.name ≡ true → compact_text (instance_data d) ≡ instance_json d
instance_shown d h = quoted_plain d.name h

instances_text : (listed : List Decl) → list_all (λ d. needs_no_escape d.name) listed ≡ true → compact_text (array_data (codes "instances") (map instance_data listed)) ++ 10 ∷ [] ≡ instance_list true listed
unfolding serde_json_on_literals
instances_text listed h =
    ap (λ t. codes "{\"instances\":[" ++ ((t ++ 125 ∷ []) ++ 10 ∷ [])) (items_shown instance_data instance_json (λ d. needs_no_escape d.name) instance_shown listed h)
    ∙ ap (λ t. codes "{\"instances\":[" ++ t) (closed (separated (map instance_json listed)))

pub instances_shown : (line : List ℕ) (value : Data) (held : List Data) (listed : List Decl) → list_all (λ d. needs_no_escape d.name) listed ≡ true → held ≡ map instance_data listed → value ≡ array_data (codes "instances") held
    → line ≡ compact_text value ++ 10 ∷ [] → line ≡ instance_list true listed
instances_shown line value held listed h are is e =
    e ∙ ap (λ d. compact_text d ++ 10 ∷ []) is ∙ ap (λ ds. compact_text (array_data (codes "instances") ds) ++ 10 ∷ []) are ∙ instances_text listed h

pub instances_no_float : (value : Data) (held : List Data) (listed : List Decl) → held ≡ map instance_data listed → value ≡ array_data (codes "instances") held → has_float value ≡ false
instances_no_float value held listed are is = rw (is, are) rw (no_float_among instance_data (λ d. refl) listed) refl
