-- Serves private contracts alone.
-- Readers of charts and documents in the form that the code has.
use Rattle.std.specs.Prelude.{ℕ, List, [], ◌∷◌, length, Some, None, codes}
use Rattle.msc_tokens.specs.declared.token.Token.{Token}
use Rattle.msc_tree.specs.Charts.{Chart, Document}
use Rattle.token_grammar.specs.Languages.{Read, ◌>>=◌, just, seq_at, either_at, map_at, optional_at}
use Rattle.token_grammar.specs.Parts.{dropped}
use Rattle.token_grammar.specs.PartReaders.{name_at, ending_at, placed_at, more_at}
use Rattle.msc_events.specs.DeclarationReaders.{heading_at, heads_at}
use Rattle.msc_document.specs.DocumentGrammar.{chart_of}
use Rattle.msc_document.specs.DocumentReaders.{content_at, chart_at, document_end_at, empty_document}

-- a chart, with what its heads declare as one value
abbrev pub chart_parts_at : ℕ → List Token → Read Chart
chart_parts_at n = map_at (λ p. chart_of p.0 p.1.0 p.1.1.1.0 p.1.1.1.1) (placed_at (just (codes "msc")) (seq_at name_at (seq_at ending_at (seq_at heads_at (content_at n)))))

-- at most so many charts, behind those that there are
abbrev pub more_charts_at : ℕ → List Chart → ℕ → List Token → Read (List Chart)
more_charts_at n = more_at (just (codes "msc")) (chart_at n)

-- charts, if there are any
abbrev pub charts_at : ℕ → List Token → Read (List Chart)
charts_at n ts = more_charts_at n [] (length ts) ts

-- one chart, and others
abbrev pub some_charts_at : ℕ → List Token → Read (List Chart)
some_charts_at n ts = chart_at n ts >>= λ c. more_charts_at n (c.0 ∷ []) (length c.1) c.1

-- the end of a document, which may be missing
abbrev pub some_end_at : List Token → Read (Unit {0})
some_end_at = optional_at (just (codes "endmscdocument")) dropped document_end_at

abbrev pub headed_at : ℕ → List Token → Read Document
headed_at n = map_at (λ p. record { heading = Some p.0; charts = p.1.0 }) (seq_at heading_at (seq_at (charts_at n) some_end_at))

abbrev pub unheaded_at : ℕ → List Token → Read Document
unheaded_at n = map_at (λ p. record { heading = None; charts = p.0 }) (seq_at (some_charts_at n) some_end_at)

-- a document with at least one token
abbrev pub some_document_at : ℕ → List Token → Read Document
some_document_at n = either_at (just (codes "mscdocument")) (headed_at n) (either_at (just (codes "msc")) (unheaded_at n) (map_at (λ e. empty_document) document_end_at))
