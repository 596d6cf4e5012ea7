-- One byte at a time.
use Rattle.std.specs.Prelude.{ℕ, ◌==◌, ◌++◌, List, [], ◌∷◌, length, nat_lt, if◌then◌else◌, fold, Option, Some, None, Result, Ok, Err}
use Rattle.msc_base.specs.declared.place.Place.{Place}
use Rattle.msc_base.specs.declared.limits.TheConstants.Limits.{NAME_BYTES}
use Rattle.msc_tokens.specs.declared.token.Token.{Token}
use Rattle.msc_tokens.specs.declared.token.TokenKind.{TokenKind}
use Rattle.msc_tokens.specs.declared.token.TokenKind.TheVariants as kind
use Rattle.msc_tokens.specs.declared.token_list.TokenList.{TokenList}
use Rattle.msc_tokens.specs.declared.fault.LexFault.{LexFault}
use Rattle.msc_tokens.specs.declared.fault.LexFault.TheVariants as fault
use Rattle.msc_tokens.specs.declared.byte_class.ByteClass.{ByteClass}
use Rattle.msc_tokens.specs.declared.byte_class.ByteClass.TheVariants as class
use Rattle.msc_tokens.specs.declared.mode.Mode.{Mode}
use Rattle.msc_tokens.specs.declared.mode.Mode.TheVariants as mode
use Rattle.msc_tokens.specs.ByteTests.{is_inside, has_letter, makes_pair, class_of}
use Rattle.msc_base.specs.Names.{is_word_byte}
use Rattle.msc_tokens.specs.Places.{first_place, after_byte}

-- where a text stands between two bytes: what is open, where it began, what is kept of it, the place, and the tokens so far
pub record State : Type 0 where
  pub mode : Mode
  pub start : Place
  pub text : List ℕ
  pub place : Place
  pub tokens : List Token

abbrev pub in_mode : Mode → State → State
in_mode m s = record s { mode = m }

-- the byte is the first of a token or note
abbrev pub opened : Mode → State → ℕ → State
opened m s c = record s { mode = m; start = s.place; text = c ∷ []; place = after_byte s.place c }

-- the byte is passed over
abbrev pub passed : Mode → State → ℕ → State
passed m s c = record s { mode = m; place = after_byte s.place c }

-- the open token takes the byte
abbrev pub grown : Mode → State → ℕ → State
grown m s c = record s { mode = m; text = s.text ++ c ∷ []; place = after_byte s.place c }

-- the open token ends before the next byte
abbrev pub closed : TokenKind → State → State
closed k s = record s { mode = mode.Between; text = []; tokens = s.tokens ++ (record { kind = k; bytes = s.text; place = s.start }) ∷ [] }

-- the next byte itself can't stand there
abbrev pub refused : State → State
refused s = record s { mode = mode.BadByte; start = s.place }

abbrev pub begun_as : ByteClass → State → ℕ → State
begun_as class.Blank s c = passed mode.Between s c
begun_as class.Word s c = opened mode.Word s c
begun_as class.Apostrophe s c = opened mode.Str s c
begun_as class.Slash s c = opened mode.Slash s c
begun_as class.Mark s c = opened mode.Mark s c
begun_as class.Other s c = refused s

-- the byte comes where nothing is open
abbrev pub begun : State → ℕ → State
begun s c = begun_as (class_of c) s c

abbrev pub next : Mode → State → ℕ → State
next mode.Between s c = begun s c
next mode.Word s c = if is_word_byte c then (if nat_lt (length s.text) NAME_BYTES then grown mode.Word s c else in_mode mode.LongName s)
    else (if has_letter s.text then begun (closed kind.Word s) c else in_mode mode.BadByte s)
next mode.Str s c = if c == 39 then grown mode.Quote s c else if is_inside c then grown mode.Str s c else refused s
next mode.Quote s c = if c == 39 then grown mode.Str s c else begun (closed kind.Str s) c
next mode.Slash s c = if c == 42 then passed mode.Note s c else in_mode mode.BadByte s
next mode.Note s c = if c == 42 then passed mode.Star s c else if is_inside c then passed mode.Note s c else refused s
next mode.Star s c = if c == 47 then passed mode.Between s c else if c == 42 then passed mode.Star s c else if is_inside c then passed mode.Note s c else refused s
next mode.Mark s c = if makes_pair s.text c then closed kind.Mark (grown mode.Mark s c) else begun (closed kind.Mark s) c
next mode.BadByte s c = s
next mode.LongName s c = s

unfoldable pub step : State → ℕ → State
step s c = next s.mode s c

abbrev pub first_state : State
first_state = record { mode = mode.Between; start = first_place; text = []; place = first_place; tokens = [] }

-- where a text stands behind these bytes
abbrev pub state_of : List ℕ → State
state_of bytes = fold step first_state bytes

-- the fault that no further byte can take away
abbrev pub settled : Mode → Place → Option LexFault
settled mode.BadByte p = Some (fault.BadByte p)
settled mode.LongName p = Some (fault.LongName p)
settled _ p = None

abbrev pub listed : State → TokenList
listed s = record { tokens = s.tokens; end_place = s.place }

-- what a text that ends here is
abbrev pub ended : Mode → State → Result TokenList LexFault
ended mode.Between s = Ok (listed s)
ended mode.Word s = if has_letter s.text then Ok (listed (closed kind.Word s)) else Err (fault.BadByte s.start)
ended mode.Str s = Err (fault.OpenString s.start)
ended mode.Quote s = Ok (listed (closed kind.Str s))
ended mode.Slash s = Err (fault.BadByte s.start)
ended mode.Note s = Err (fault.OpenNote s.start)
ended mode.Star s = Err (fault.OpenNote s.start)
ended mode.Mark s = Ok (listed (closed kind.Mark s))
ended mode.BadByte s = Err (fault.BadByte s.start)
ended mode.LongName s = Err (fault.LongName s.start)
