-- The tokens of charts and documents.
use Rattle.std.specs.Prelude.{ℕ, List, [], ◌∷◌, ◌++◌, Option, codes}
use Rattle.msc_tree.specs.declared.chart.Decl.{Decl}
use Rattle.msc_tree.specs.declared.chart.Heading.{Heading as DocumentHeading}
use Rattle.msc_tree.specs.Charts.{Content, Basic, HighLevel, Chart, Document}
use Rattle.msc_tree.specs.Statements.{statements}
use Rattle.msc_print.specs.Words.{Words, alone, all_words, separated_words, if_any, end_words}
use Rattle.msc_print.specs.GraphWords.{graph_words}
use Rattle.msc_print.specs.StatementWords.{decl_words, statements_words}
use Rattle.msc_print.specs.Layout.{laid_out}

-- a head, where there is something in its list
abbrev pub head_list : {A : Type 0} → List ℕ → (A → Words) → List A → Words
head_list word f [] = []
head_list word f (x ∷ xs) = word ∷ (separated_words (codes ",") f (x ∷ xs) ++ end_words)

-- [ "inst" decl { "," decl } end ]
abbrev pub decl_head_words : List Decl → Words
decl_head_words = head_list (codes "inst") decl_words

-- [ word names end ]
abbrev pub name_head_words : List ℕ → List (List ℕ) → Words
name_head_words word = head_list word alone

-- the heads of a chart: at most one of each kind
abbrev pub heads_words : Chart → Words
heads_words c = decl_head_words c.decls ++ (name_head_words (codes "msg") c.messages ++ name_head_words (codes "timer") c.timers)

abbrev pub content_words : Content → Words
content_words (Basic held) = statements_words (statements held)
content_words (HighLevel held) = graph_words held

-- "msc" name end { head } ( { statement } | graph ) "endmsc" end
abbrev pub chart_words : Chart → Words
chart_words c = codes "msc" ∷ c.name ∷ (end_words ++ (heads_words c ++ (content_words c.content ++ codes "endmsc" ∷ end_words)))

-- [ "related" "to" name ]
abbrev pub related_words : Option (List ℕ) → Words
related_words = if_any (λ other. codes "related" ∷ codes "to" ∷ other ∷ [])

-- "mscdocument" name [ "related" "to" name ] end
abbrev pub heading_words : DocumentHeading → Words
heading_words h = codes "mscdocument" ∷ h.name ∷ (related_words h.related ++ end_words)

abbrev pub opening_words : Option DocumentHeading → Words
opening_words = if_any heading_words

-- `endmscdocument` stands exactly where there is a heading
abbrev pub closing_words : Option DocumentHeading → Words
closing_words = if_any (λ h. codes "endmscdocument" ∷ end_words)

abbrev pub document_words : Document → Words
document_words d = opening_words d.heading ++ (all_words chart_words d.charts ++ closing_words d.heading)

-- the canonical text of a document
abbrev pub canonical_text : Document → List ℕ
canonical_text d = laid_out (document_words d)
