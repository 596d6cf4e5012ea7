-- The laws and rules of charts.
use Rattle.std.proofs.Common.{ℕ, ◌≡◌, ◌++◌, true, List, [], ◌∷◌, refl, sym, inr, subst, Option, Some, None, codes}
use Rattle.msc_tree.specs.declared.chart.Decl.{Decl}
use Rattle.msc_tree.specs.Charts.{Basic, HighLevel}
use Rattle.msc_tree.specs.Statements.{Item, Statement, Column, items}
use Rattle.token_grammar.specs.Languages.{Set, apart, just, seq_at}
use Rattle.token_grammar.specs.Grammars.{Grammar, seq, or, read_as, word, behind}
use Rattle.token_grammar.specs.Parts.{ending}
use Rattle.token_grammar.specs.PartReaders.{ending_at}
use Rattle.token_grammar.proofs.Optionals.{none, behind_law, behind_rule}
use Rattle.token_grammar.proofs.PartRules.{ends, name_law, name_rule, ending_law, ending_rule, placed_law, placed_rule}
use Rattle.token_grammar.proofs.Rules.{Law, Rule, seq_law, seq_rule, or_law, or_rule, as_law, as_rule, until_law, until_rule, same_law, same_rule}
use Rattle.msc_events.specs.Declarations.{decl, declared_by}
use Rattle.msc_events.proofs.DeclarationRules.{after_decl, after_parts, after_kind, decl_law, decl_rule, head_law, head_rule}
use Rattle.msc_expression.proofs.GraphRules.{chart_graph_law, chart_graph_rule}
use Rattle.msc_document.specs.Inlines.{each, before}
use Rattle.msc_document.specs.DocumentGrammar.{column_event, covered, statement, chart_end, content, chart, chart_of}
use Rattle.msc_document.specs.DocumentReaders.{State, idle, events, multis, kind, long, event_words, chart_words, more_words, more_seconds, column_at, column_event_at, instance_at, chart_opening_at, chart_statements_at, chart_end_at, content_at, chart_at, outside_tails_at}
use Rattle.msc_document.proofs.Beginnings.{more, covered_continued}
use Rattle.msc_document.proofs.ColumnRules.{column_law, column_rule}
use Rattle.msc_document.proofs.Continued.{nothing, Continued, or_continued, as_continued, whole_continued}
use Rattle.msc_document.proofs.Separators.{gather_pair, spread_pair, gather_pair_brink, spread_pair_brink}
use Rattle.msc_document.proofs.Shallows.{ending_shallow}
use Rattle.msc_document.proofs.LineRules.{state_of}
use Rattle.msc_document.proofs.StatementRules.{OutEvents, OutMultis, Openings, Fits, covered_is, openings_law, openings_rule, statements_law, statements_rule, out_laws, out_parts, out_rules}

-- ---- the column of an instance

abbrev Held : ℕ → Grammar (List Item)
Held m = each (column_event m)

abbrev Closed : ℕ → Grammar (List Item × Unit {0})
Closed m = seq (Held m) (behind (just (codes "endinstance")) ending)

abbrev Columns : ℕ → Grammar Statement
Columns m = read_as (λ p. Column p.0 (items p.1.1.0)) (behind (just (codes "instance")) (seq decl (seq ending (Closed m))))

closed_law : (n : ℕ) → Law Closed n (event_words ++ just (codes "endinstance")) none
closed_law n = same_law (λ m. seq (before (Held m) (word (just (codes "endinstance")))) ending) Closed (event_words ++ just (codes "endinstance")) none n
    (λ m. spread_pair (just (codes "endinstance")) (Held m) ending) (λ m. gather_pair (just (codes "endinstance")) (Held m) ending) (seq_law (column_law n) (ending_law n) (λ a. refl))

closed_rule : (n : ℕ) → Rule Closed n (event_words ++ just (codes "endinstance")) none (seq_at (column_at None (column_event_at n)) ending_at)
closed_rule n = same_rule (λ m. seq (before (Held m) (word (just (codes "endinstance")))) ending) Closed (event_words ++ just (codes "endinstance")) none n
    (λ m. spread_pair (just (codes "endinstance")) (Held m) ending) (λ m. gather_pair (just (codes "endinstance")) (Held m) ending)
    (spread_pair_brink (just (codes "endinstance")) (Held n) ending ending_shallow) (gather_pair_brink (just (codes "endinstance")) (Held n) ending ending_shallow) (seq_rule (column_rule n) (ending_rule n) (λ a. refl))

-- what an end may not follow
decl_free : (d : Decl) → apart ends (after_decl d) ≡ true
decl_free d = parts d.kind d.refined
  where
    parts : (list : List (List ℕ)) (part : Option (List ℕ)) → apart ends (after_parts list part) ≡ true
    parts list None = kinds list
      where
        kinds : (list : List (List ℕ)) → apart ends (just (codes "decomposed") ++ after_kind list) ≡ true
        kinds [] = refl
        kinds (first ∷ []) = refl
        kinds (first ∷ second ∷ rest) = refl
    parts list (Some part) = refl

columns_law : (n : ℕ) → Law Columns n (just (codes "instance")) none
columns_law n = as_law (λ p. Column p.0 (items p.1.1.0)) none (behind_law (just (codes "instance")) (seq_law (decl_law n) (seq_law (ending_law n) (closed_law n) (λ a. refl)) decl_free)) (λ a. refl)

columns_rule : (n : ℕ) → Rule Columns n (just (codes "instance")) none (instance_at n)
columns_rule n = as_rule (λ p. Column p.0 (items p.1.1.0)) none (behind_rule (just (codes "instance")) (codes "instance") refl (seq_rule (decl_rule n) (seq_rule (ending_rule n) (closed_rule n) (λ a. refl)) decl_free)) (λ a. refl)

-- ---- statements

abbrev ChartOpenings : ℕ → Grammar Statement
ChartOpenings m = or (Columns m) (Openings m)

fits_chart : Fits None statement ChartOpenings chart_words
fits_chart = record { free = refl; other = other; continued = continued; able = λ q. inr (none_behind q) }
  where
    other : (q : State) → apart chart_words (more_words q) ≡ true
    other idle = refl
    other events = refl
    other multis = refl

    none_behind : (q : State) → more_seconds None q ≡ []
    none_behind idle = refl
    none_behind events = refl
    none_behind multis = refl

    continued : (m : ℕ) → Continued (statement m) (ChartOpenings m) (λ s. more (OutEvents m) (OutMultis m) (kind s)) long
    continued m = or_continued (Columns m) (Columns m) (covered m) (Openings m) (λ s. more (OutEvents m) (OutMultis m) (kind s)) long
        (as_continued (λ p. Column p.0 (items p.1.1.0)) (behind (just (codes "instance")) (seq decl (seq ending (Closed m)))) (behind (just (codes "instance")) (seq decl (seq ending (Closed m)))) (λ a. nothing) (λ a bs. a) (λ s. more (OutEvents m) (OutMultis m) (kind s)) long (λ x a h. refl) (λ x a bs h. refl) (whole_continued (behind (just (codes "instance")) (seq decl (seq ending (Closed m))))))
        (subst (λ g. Continued g (Openings m) (λ s. more (OutEvents m) (OutMultis m) (kind s)) long) (covered_is m) (covered_continued (OutEvents m) (OutMultis m)))

chart_openings_law : (n : ℕ) → Law ChartOpenings n chart_words none
chart_openings_law n = or_law (columns_law n) (openings_law n (out_laws n)) refl

chart_openings_rule : (n : ℕ) → Rule ChartOpenings n chart_words none (chart_opening_at n)
chart_openings_rule n = or_rule (columns_rule n) (openings_rule n (outside_tails_at n) (out_rules n)) refl

-- nothing behind "endmsc" is in its way
nothing_behind : (q : State) → more_seconds None q ≡ []
nothing_behind idle = refl
nothing_behind events = refl
nothing_behind multis = refl

abbrev Statements : ℕ → Grammar (List Statement)
Statements m = before (each (statement m)) (word (just (codes "endmsc")))

statements_free : (xs : List Statement) → apart ends (more_seconds None (state_of kind idle xs)) ≡ true
statements_free xs = subst (λ (s : Set). apart ends s ≡ true) (sym (nothing_behind (state_of kind idle xs))) refl

-- ---- charts

abbrev Basics : ℕ → Grammar (List Statement × Unit {0})
Basics m = seq (each (statement m)) chart_end

abbrev content_words : Set
content_words = chart_words ++ just (codes "endmsc")

basics_law : (n : ℕ) → Law Basics n content_words none
basics_law n = same_law (λ m. seq (Statements m) ending) Basics content_words none n (λ m. spread_pair (just (codes "endmsc")) (each (statement m)) ending) (λ m. gather_pair (just (codes "endmsc")) (each (statement m)) ending)
    (seq_law (statements_law None statement ChartOpenings chart_words fits_chart n (out_laws n) (chart_openings_law n)) (ending_law n) statements_free)

basics_rule : (n : ℕ) → Rule Basics n content_words none (seq_at (chart_statements_at n) ending_at)
basics_rule n = same_rule (λ m. seq (Statements m) ending) Basics content_words none n (λ m. spread_pair (just (codes "endmsc")) (each (statement m)) ending) (λ m. gather_pair (just (codes "endmsc")) (each (statement m)) ending)
    (spread_pair_brink (just (codes "endmsc")) (each (statement n)) ending ending_shallow) (gather_pair_brink (just (codes "endmsc")) (each (statement n)) ending ending_shallow)
    (seq_rule (statements_rule None statement ChartOpenings chart_words fits_chart n out_parts (out_laws n) (chart_openings_law n) (outside_tails_at n) (out_rules n) (chart_opening_at n) (chart_openings_rule n)) (ending_rule n) statements_free)

chart_end_law : (n : ℕ) → Law (λ m. chart_end) n (just (codes "endmsc")) none
chart_end_law n = behind_law (just (codes "endmsc")) (ending_law n)

chart_end_rule : (n : ℕ) → Rule (λ m. chart_end) n (just (codes "endmsc")) none chart_end_at
chart_end_rule n = behind_rule (just (codes "endmsc")) (codes "endmsc") refl (ending_rule n)

abbrev any_content : Set
any_content = content_words ++ just (codes "expr")

content_law : (n : ℕ) → Law content n any_content none
content_law n = or_law (as_law (λ p. Basic p.0) none (basics_law n) (λ a. refl)) (as_law (λ p. HighLevel p.0) none (chart_graph_law n refl (chart_end_law n)) (λ a. refl)) refl

content_rule : (n : ℕ) → Rule content n any_content none (content_at n)
content_rule n = or_rule (as_rule (λ p. Basic p.0) none (basics_rule n) (λ a. refl)) (as_rule (λ p. HighLevel p.0) none (chart_graph_rule n refl (chart_end_rule n)) (λ a. refl)) refl

pub chart_law : (n : ℕ) → Law chart n (just (codes "msc")) none
chart_law n = as_law (λ p. chart_of p.0 p.1.0 (declared_by p.1.1.1.0) p.1.1.1.1) none (placed_law (just (codes "msc")) (seq_law (name_law n) (seq_law (ending_law n)
    (until_law (head_law n) (content_law n) (λ a. refl) refl (λ a. refl)) (λ a. refl)) (λ a. refl))) (λ a. refl)

pub chart_rule : (n : ℕ) → Rule chart n (just (codes "msc")) none (chart_at n)
chart_rule n = as_rule (λ p. chart_of p.0 p.1.0 (declared_by p.1.1.1.0) p.1.1.1.1) none (placed_rule (just (codes "msc")) (codes "msc") refl (seq_rule (name_rule n) (seq_rule (ending_rule n)
    (until_rule (head_rule n) (content_rule n) (λ a. refl) refl (λ a. refl)) (λ a. refl)) (λ a. refl))) (λ a. refl)
