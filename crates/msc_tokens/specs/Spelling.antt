-- How a text is cut into tokens, and its first fault.
use Rattle.std.specs.Prelude.{◌≡◌, ◌≢◌, ◌⊎◌, ◌<◌, ◌≤◌, ◌^◌, ◌+◌, ℕ, List, [], ◌∷◌, ◌++◌, length, All, Any}
use Rattle.std.specs.List.{flat_map}
use Rattle.msc_base.specs.declared.place.Place.{Place}
use Rattle.msc_base.specs.declared.limits.TheConstants.Limits.{NAME_BYTES}
use Rattle.msc_base.specs.Names.{IsWord, IsWordByte, IsLetterOrDigit}
use Rattle.msc_tokens.specs.declared.token.Token.{Token}
use Rattle.msc_tokens.specs.declared.token.TokenKind.TheVariants.{Word, Str, Mark}
use Rattle.msc_tokens.specs.declared.fault.LexFault.{LexFault}
use Rattle.msc_tokens.specs.declared.fault.LexFault.TheVariants.{BadByte, OpenString, OpenNote, LongName}
use Rattle.msc_tokens.specs.Places.{first_place, past}

-- tab, line feed, carriage return, space
abbrev pub IsBlank : ℕ → Type 0
IsBlank b = (b ≡ 9) ⊎ (b ≡ 10) ⊎ (b ≡ 13) ⊎ (b ≡ 32)

-- a byte that a string or a note may hold
abbrev pub IsInside : ℕ → Type 0
IsInside b = (b ≡ 9) ⊎ (b ≡ 10) ⊎ (b ≡ 13) ⊎ ((32 ≤ b) × (b ≤ 126)) ⊎ (128 ≤ b)

-- `;` `:` `,` `(` `)` `<` `>` `[` `]` `@` `&` `=`
abbrev pub IsMark : ℕ → Type 0
IsMark b = (b ≡ 59) ⊎ (b ≡ 58) ⊎ (b ≡ 44) ⊎ (b ≡ 40) ⊎ (b ≡ 41) ⊎ (b ≡ 60) ⊎ (b ≡ 62) ⊎ (b ≡ 91) ⊎ (b ≡ 93) ⊎ (b ≡ 64) ⊎ (b ≡ 38) ⊎ (b ≡ 61)

-- `:=` `<<` `>>`
abbrev pub IsPair : ℕ → ℕ → Type 0
IsPair b c = ((b ≡ 58) × (c ≡ 61)) ⊎ ((b ≡ 60) × (c ≡ 60)) ⊎ ((b ≡ 62) × (c ≡ 62))

-- the bytes begin with one of this kind
abbrev pub BeginsWith : (ℕ → Type 0) → List ℕ → Type 0
BeginsWith P [] = ⊥
BeginsWith P (b ∷ bs) = P b

abbrev pub IsApostrophe : ℕ → Type 0
IsApostrophe b = b ≡ 39

abbrev pub IsSlash : ℕ → Type 0
IsSlash b = b ≡ 47

abbrev pub IsStar : ℕ → Type 0
IsStar b = b ≡ 42

-- a part of what a string holds: a byte, or an apostrophe, which is doubled
pub data StringPart : Type 0 where
  Plain : ℕ → StringPart
  Doubled : StringPart

abbrev pub held : List StringPart → List ℕ
held [] = []
held (Plain b ∷ ps) = b ∷ held ps
held (Doubled ∷ ps) = 39 ∷ 39 ∷ held ps

abbrev pub AreParts : List StringPart → Type 0
AreParts [] = Unit {0}
AreParts (Plain b ∷ ps) = IsInside b × (b ≢ 39) × AreParts ps
AreParts (Doubled ∷ ps) = AreParts ps

-- a note may hold these bytes, and they don't close it
abbrev pub IsNoted : List ℕ → Type 0
IsNoted [] = Unit {0}
IsNoted (b ∷ bs) = IsInside b × (IsStar b → BeginsWith IsSlash bs → ⊥) × IsNoted bs

-- a part of a text: a blank, a note with what it holds, or what a token takes
pub data TextPiece : Type 0 where
  Blank : ℕ → TextPiece
  Note : List ℕ → TextPiece
  OneWord : List ℕ → TextPiece
  OneString : List StringPart → TextPiece
  OneMark : ℕ → TextPiece
  LongMark : ℕ → ℕ → TextPiece

abbrev pub text : TextPiece → List ℕ
text (Blank b) = b ∷ []
text (Note bs) = 47 ∷ 42 ∷ (bs ++ 42 ∷ 47 ∷ [])
text (OneWord w) = w
text (OneString ps) = 39 ∷ (held ps ++ 39 ∷ [])
text (OneMark b) = b ∷ []
text (LongMark b c) = b ∷ c ∷ []

abbrev pub bytes_of : List TextPiece → List ℕ
bytes_of xs = flat_map text xs

-- the token that a piece is, at its place
abbrev pub token_of : Place → TextPiece → List Token
token_of p (Blank b) = []
token_of p (Note bs) = []
token_of p (OneWord w) = (record { kind = Word; bytes = w; place = p }) ∷ []
token_of p (OneString ps) = (record { kind = Str; bytes = 39 ∷ (held ps ++ 39 ∷ []); place = p }) ∷ []
token_of p (OneMark b) = (record { kind = Mark; bytes = b ∷ []; place = p }) ∷ []
token_of p (LongMark b c) = (record { kind = Mark; bytes = b ∷ c ∷ []; place = p }) ∷ []

abbrev pub tokens_from : Place → List TextPiece → List Token
tokens_from p [] = []
tokens_from p (x ∷ xs) = token_of p x ++ tokens_from (past p (text x)) xs

abbrev pub IsPiece : TextPiece → Type 0
IsPiece (Blank b) = IsBlank b
IsPiece (Note bs) = IsNoted bs
IsPiece (OneWord w) = IsWord w
IsPiece (OneString ps) = AreParts ps
IsPiece (OneMark b) = IsMark b
IsPiece (LongMark b c) = IsPair b c

-- what follows a piece doesn't make it longer
abbrev pub Ends : TextPiece → List ℕ → Type 0
Ends (Blank b) rest = Unit {0}
Ends (Note bs) rest = Unit {0}
Ends (OneWord w) rest = BeginsWith IsWordByte rest → ⊥
Ends (OneString ps) rest = BeginsWith IsApostrophe rest → ⊥
Ends (OneMark b) rest = BeginsWith (IsPair b) rest → ⊥
Ends (LongMark b c) rest = Unit {0}

-- each of the pieces is one, and ends before what follows
abbrev pub IsWellCut : List TextPiece → List ℕ → Type 0
IsWellCut [] rest = Unit {0}
IsWellCut (x ∷ xs) rest = IsPiece x × Ends x (bytes_of xs ++ rest) × IsWellCut xs rest

-- the bytes are a row of pieces, and these are its tokens
pub record Spells (bytes : List ℕ) (tokens : List Token) : Type 0 where
  pub pieces : List TextPiece
  pub spelled : bytes ≡ bytes_of pieces
  pub cut : IsWellCut pieces []
  pub tokens_are : tokens ≡ tokens_from first_place pieces

-- a byte that begins no piece
pub record BeginsNothing (b : ℕ) : Type 0 where
  pub no_blank : IsBlank b → ⊥
  pub no_word : IsWordByte b → ⊥
  pub no_string : b ≢ 39
  pub no_note : b ≢ 47
  pub no_mark : IsMark b → ⊥

-- the rest of a text, which begins at this place, begins no piece for this fault
pub data BreaksSpelling (at : Place) (rest : List ℕ) (fault : LexFault) : Type 0 where
  -- so many bytes are of a word, one more than a name may have
  long_word : (w behind : List ℕ) → rest ≡ w ++ behind → All IsWordByte w → length w ≡ NAME_BYTES + 1 → fault ≡ LongName at → BreaksSpelling at rest fault
  -- a word that is short enough has no letter or digit
  bad_word : (w behind : List ℕ) → rest ≡ w ++ behind → All IsWordByte w → (BeginsWith IsWordByte behind → ⊥) → 0 < length w → length w ≤ NAME_BYTES
      → (Any IsLetterOrDigit w → ⊥) → fault ≡ BadByte at → BreaksSpelling at rest fault
  bad_byte : (b : ℕ) (behind : List ℕ) → rest ≡ b ∷ behind → BeginsNothing b → fault ≡ BadByte at → BreaksSpelling at rest fault
  -- a `/` that begins no note
  lone_slash : (behind : List ℕ) → rest ≡ 47 ∷ behind → (BeginsWith IsStar behind → ⊥) → fault ≡ BadByte at → BreaksSpelling at rest fault
  -- the text ends inside a string
  open_string : (ps : List StringPart) → rest ≡ 39 ∷ held ps → AreParts ps → fault ≡ OpenString at → BreaksSpelling at rest fault
  -- the text ends inside a note
  open_note : (bs : List ℕ) → rest ≡ 47 ∷ 42 ∷ bs → IsNoted bs → fault ≡ OpenNote at → BreaksSpelling at rest fault
  -- a byte that a string can't hold
  bad_in_string : (ps : List StringPart) (b : ℕ) (behind : List ℕ) → rest ≡ (39 ∷ held ps) ++ b ∷ behind → AreParts ps → (IsInside b → ⊥)
      → fault ≡ BadByte (past at (39 ∷ held ps)) → BreaksSpelling at rest fault
  -- a byte that a note can't hold
  bad_in_note : (bs : List ℕ) (b : ℕ) (behind : List ℕ) → rest ≡ (47 ∷ 42 ∷ bs) ++ b ∷ behind → IsNoted bs → (IsInside b → ⊥)
      → fault ≡ BadByte (past at (47 ∷ 42 ∷ bs)) → BreaksSpelling at rest fault

-- the bytes are a row of pieces and a rest that begins none: the first fault of the text
pub record HasLexFault (bytes : List ℕ) (fault : LexFault) : Type 0 where
  pub pieces : List TextPiece
  pub rest : List ℕ
  pub spelled : bytes ≡ bytes_of pieces ++ rest
  pub cut : IsWellCut pieces rest
  pub breaks : BreaksSpelling (past first_place (bytes_of pieces)) rest fault

-- the fault of each text that begins with these bytes
abbrev pub IsSettled : List ℕ → LexFault → Type 0
IsSettled bytes fault = (more : List ℕ) → All (λ b. b < 2 ^ 8) more → HasLexFault (bytes ++ more) fault
