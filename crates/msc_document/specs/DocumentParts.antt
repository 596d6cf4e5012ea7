-- Serves private contracts alone, but for `IsWritten`.
-- A document whose text is read part by part.
use Rattle.std.specs.Prelude.{◌≡◌, ◌++◌, ℕ, List, [], None}
use Rattle.msc_tokens.specs.declared.token.Token.{Token}
use Rattle.msc_tokens.specs.Machine.{State}
use Rattle.msc_tokens.specs.Parts.{Cuts}
use Rattle.msc_tokens.specs.Spelling.{Spells}
use Rattle.msc_tree.specs.Charts.{Document}
use Rattle.token_grammar.specs.Languages as rules
use Rattle.msc_events.specs.Declarations.{heading}
use Rattle.msc_document.specs.DocumentGrammar.{perhaps, chart, document}

-- nothing of the document has been read
abbrev pub IsNew : Document → Type 0
IsNew d = (d.heading ≡ None) × (d.charts ≡ [])

module _ (levels : ℕ) where
  -- the tokens are the document up to here: its heading, if it has one, and charts
  abbrev pub Begun : List Token → Document → Type 0
  Begun tokens d = rules.seq (perhaps heading).reads (rules.each (chart levels).reads) tokens (d.heading, d.charts)

  -- the tokens up to the rest go on with the document
  pub record Continues (tokens rest : List Token) (old new : Document) : Type 0 where
    pub used : List Token
    pub cut : tokens ≡ used ++ rest
    pub goes : (before : List Token) → Begun before old → Begun (before ++ used) new

  -- the tokens go on with the document and end it
  pub record Ends (tokens : List Token) (old new : Document) : Type 0 where
    pub ends : (before : List Token) → Begun before old → (document levels).reads (before ++ tokens) new

  -- these bytes of the text have been taken, and the document up to the tokens that were taken out has been read
  pub record HasRead (bytes : List ℕ) (lexer : State) (d : Document) : Type 0 where
    pub taken : List Token
    pub cuts : Cuts bytes taken lexer
    pub begun : Begun taken d

  -- the bytes up to those behind have been taken
  pub record Moves (bytes behind : List ℕ) (lexer : State) (d : Document) (later : State) (e : Document) : Type 0 where
    pub part : List ℕ
    pub cut : bytes ≡ part ++ behind
    pub goes : (before : List ℕ) → HasRead before lexer d → HasRead (before ++ part) later e

  -- the text has been read up to the rest
  pub record IsAt (bytes rest : List ℕ) (lexer : State) (d : Document) : Type 0 where
    pub part : List ℕ
    pub cut : bytes ≡ part ++ rest
    pub read : HasRead part lexer d

  -- the bytes have tokens that read as this document, with no more levels open than may be
  pub record IsWritten (bytes : List ℕ) (d : Document) : Type 0 where
    pub tokens : List Token
    pub spells : Spells bytes tokens
    pub reads : (document levels).reads tokens d
