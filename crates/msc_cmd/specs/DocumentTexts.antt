-- What the bytes of a document are as a text: a document by its grammar, or the first fault of the text.
use Rattle.std.specs.Prelude.{◌≡◌, ◌<◌, ◌≤◌, ℕ, List, length, take}
use Rattle.msc_base.specs.declared.limits.TheConstants.Limits.{DOCUMENT_BYTES, NESTING}
use Rattle.msc_base.specs.declared.place.Place.{Place}
use Rattle.msc_tokens.specs.declared.fault.LexFault.{LexFault}
use Rattle.msc_tokens.specs.declared.fault.LexFault.TheVariants as lexical
use Rattle.msc_tokens.specs.declared.token.Token.{Token}
use Rattle.msc_tokens.specs.Places.{first_place, past}
use Rattle.msc_tokens.specs.Spelling.{Spells, HasLexFault}
use Rattle.msc_tree.specs.Charts.{Document}
use Rattle.msc_tree.specs.Views.{document_view}
use Rattle.token_grammar.specs.declared.fault.ParseFault.{ParseFault}
use Rattle.token_grammar.specs.declared.fault.ParseFault.TheVariants as grammar
use Rattle.msc_rules.specs.declared.rule.Rule.{Rule}
use Rattle.msc_rules.specs.declared.rule.Rule.TheVariants as rule
use Rattle.msc_document.specs.DocumentGrammar.{document as documents}
use Rattle.token_grammar.specs.Refusals.{IsFault}
use Rattle.msc_cmd.specs.declared.document_text.DocumentText.{DocumentText}
use Rattle.msc_cmd.specs.declared.document_text.DocumentText.TheVariants.{Read, Refused}

-- the bytes are not too long, and their tokens read as this document, with no more levels open than may be
pub record ReadsDocument (bytes : List ℕ) (document : Document) : Type 0 where
  pub short : length bytes ≤ DOCUMENT_BYTES
  pub tokens : List Token
  pub spells : Spells bytes tokens
  pub reads : (documents NESTING).reads tokens document

-- the rule that a fault of the bytes breaks, and its place
abbrev pub BreaksRule : LexFault → Rule → Place → Type 0
BreaksRule (lexical.BadByte at) broken place = (broken ≡ rule.BadByte) × (place ≡ at)
BreaksRule (lexical.OpenString at) broken place = (broken ≡ rule.OpenString) × (place ≡ at)
BreaksRule (lexical.OpenNote at) broken place = (broken ≡ rule.OpenNote) × (place ≡ at)
BreaksRule (lexical.LongName at) broken place = (broken ≡ rule.LongName) × (place ≡ at)
BreaksRule lexical.NoMemory broken place = ⊥

-- the rule that a fault of the tokens breaks, and its place
abbrev pub BreaksGrammar : ParseFault → Rule → Place → Type 0
BreaksGrammar (grammar.Syntax at) broken place = (broken ≡ rule.Syntax) × (place ≡ at)
BreaksGrammar (grammar.Unsupported form at) broken place = (broken ≡ rule.Unsupported form) × (place ≡ at)
BreaksGrammar (grammar.TooDeep at) broken place = (broken ≡ rule.TooDeep) × (place ≡ at)
BreaksGrammar grammar.NoMemory broken place = ⊥

-- The first rule that the text breaks, and its place: the bytes are too long, can't be cut into tokens, or have tokens
-- that are no document, or one with a level too many.
pub data HasTextFault (bytes : List ℕ) (broken : Rule) (place : Place) : Type 0 where
  too_long : DOCUMENT_BYTES < length bytes → broken ≡ rule.Bytes → place ≡ past first_place (take DOCUMENT_BYTES bytes) → HasTextFault bytes broken place
  lexical_fault : length bytes ≤ DOCUMENT_BYTES → (fault : LexFault) → HasLexFault bytes fault → BreaksRule fault broken place → HasTextFault bytes broken place
  grammar_fault : length bytes ≤ DOCUMENT_BYTES → (tokens : List Token) → Spells bytes tokens → (fault : ParseFault) → IsFault documents NESTING tokens (past first_place bytes) fault → BreaksGrammar fault broken place
      → HasTextFault bytes broken place

-- the bytes are a text of this document and of no other, and have no fault
pub record IsOnlyText (bytes : List ℕ) (document : Document) : Type 0 where
  pub is : ReadsDocument bytes document
  pub only : (other : Document) → ReadsDocument bytes other → other ≡ document
  pub faultless : (broken : Rule) (place : Place) → HasTextFault bytes broken place → ⊥

-- they break this rule first, at this place, and are no text of a document
pub record IsOnlyTextFault (bytes : List ℕ) (broken : Rule) (place : Place) : Type 0 where
  pub is : HasTextFault bytes broken place
  pub only : (other : Rule) (there : Place) → HasTextFault bytes other there → (other ≡ broken) × (there ≡ place)
  pub none : (document : Document) → ReadsDocument bytes document → ⊥

abbrev pub IsTheText : List ℕ → DocumentText → Type 0
IsTheText bytes (Read document) = IsOnlyText bytes (document_view document)
IsTheText bytes (Refused broken place) = IsOnlyTextFault bytes broken place

-- ---- tokens

-- the tokens, of a text that ends there, are this document and no other, and have no fault
pub record ReadsAlone (tokens : List Token) (end : Place) (document : Document) : Type 0 where
  pub reads : (documents NESTING).reads tokens document
  pub only : (other : Document) → (documents NESTING).reads tokens other → other ≡ document
  pub faultless : (fault : ParseFault) → IsFault documents NESTING tokens end fault → ⊥

-- they have one fault, which breaks this rule at this place, and are no document
pub record MisreadsAlone (tokens : List Token) (end : Place) (broken : Rule) (place : Place) : Type 0 where
  pub fault : ParseFault
  pub is : IsFault documents NESTING tokens end fault
  pub breaks : BreaksGrammar fault broken place
  pub only : (other : ParseFault) → IsFault documents NESTING tokens end other → other ≡ fault
  pub none : (document : Document) → (documents NESTING).reads tokens document → ⊥

abbrev pub ParsesAs : List Token → Place → DocumentText → Type 0
ParsesAs tokens end (Read document) = ReadsAlone tokens end (document_view document)
ParsesAs tokens end (Refused broken place) = MisreadsAlone tokens end broken place
