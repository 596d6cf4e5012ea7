-- What a JSON line of a log says.
use Rattle.std.specs.Prelude.{◌≡◌, ℕ, Bool, true, false, List, Option, Some, None, codes, option_and_then, ◌&&◌, ◌||◌, ◌==◌, if◌then◌else◌, IsUtf8}
use Rattle.std.specs.Str.{bytes_eq}
use Rattle.serde_json.specs.Data.{Data, Members, no_members, member}
use Rattle.serde_json.specs.Find.{get, as_object, as_str, as_number, as_u64}
use Rattle.serde_json.specs.Read.{read}
use Rattle.msc_base.specs.Names.{IsName}
use Rattle.msc_base.specs.declared.label.Label.{Label}
use Rattle.msc_base.specs.declared.label.Kind.{Kind}
use Rattle.msc_base.specs.declared.label.Kind.TheVariants.{Output, Input, OutputLost, InputFound, Action, TimerStart, TimerStop, Timeout, Create}
use Rattle.msc_base.specs.declared.label.Far.{Far}
use Rattle.msc_base.specs.declared.label.Far.TheVariants.{Nobody, Env, Instance}
use Rattle.msc_tokens.specs.declared.token.Token.{Token}
use Rattle.msc_tokens.specs.Spelling.{Spells}
use Rattle.token_grammar.specs.Languages.{texts}
use Rattle.msc_events.specs.LogEvents.{ReadsText}
use Rattle.event_log.specs.declared.event.Version.{Version}
use Rattle.event_log.specs.declared.event.Version.TheVariants.{First, Second}

-- so much is true of the bytes' tokens
pub record Spelled {A : Type 0} (P : List (List ℕ) → A → Type 0) (bytes : List ℕ) (x : A) : Type 0 where
  pub tokens : List Token
  pub spells : Spells bytes tokens
  pub is : P (texts tokens) x

-- so much is true of the value that the bytes are in JSON
pub record Written {A : Type 0} (P : Data → A → Type 0) (bytes : List ℕ) (x : A) : Type 0 where
  pub utf8 : IsUtf8 bytes
  pub value : Data
  pub reads : read bytes ≡ Some value
  pub is : P value x

-- version 1 has no creations
abbrev pub IsAllowed : Version → Kind → Type 0
IsAllowed version kind = kind ≡ Create → version ≡ Second

-- whether each member has a name that passes
abbrev pub all_members : (List ℕ → Bool) → Members → Bool
all_members passes no_members = true
all_members passes (member k d ms) = passes k && all_members passes ms

abbrev pub is_version_member : List ℕ → Bool
is_version_member k = bytes_eq k (codes "log")

abbrev pub is_event_member : List ℕ → Bool
is_event_member k = bytes_eq k (codes "at") || (bytes_eq k (codes "kind") || (bytes_eq k (codes "text") || bytes_eq k (codes "far")))

-- the value is an object, and all its members have names that pass
pub record HasMembers (passes : List ℕ → Bool) (d : Data) : Type 0 where
  pub members : Members
  pub object : as_object d ≡ Some members
  pub pass : all_members passes members ≡ true

-- the version that the number states, if it is one of the two
abbrev pub version_of_number : Option ℕ → Option Version
version_of_number None = None
version_of_number (Some n) = (if n == 1 then Some First else if n == 2 then Some Second else None)

-- the value is an object with the one member `log`, and states this version: the whole number 1 or 2, or another
pub record IsVersionObject (d : Data) (stated : Option Version) : Type 0 where
  pub only : HasMembers is_version_member d
  pub value : Data
  pub at : get (codes "log") d ≡ Some value
  pub stated_is : stated ≡ version_of_number (option_and_then as_u64 (as_number value))

-- the texts of an event's members, of which the last may be missing
pub record Said : Type 0 where
  pub at : List ℕ
  pub kind : List ℕ
  pub text : List ℕ
  pub far : Option (List ℕ)

abbrev pub text_at : List ℕ → Data → Option (List ℕ)
text_at k d = option_and_then as_str (get k d)

-- None where the member is no text
abbrev pub text_or_none : Option Data → Option (Option (List ℕ))
text_or_none None = Some None
text_or_none (Some d) = option_and_then (λ s. Some (Some s)) (as_str d)

-- the value is an object whose members of an event are these texts; of a name that stands there twice the last counts
pub record SaysTexts (d : Data) (said : Said) : Type 0 where
  pub at_is : text_at (codes "at") d ≡ Some said.at
  pub kind_is : text_at (codes "kind") d ≡ Some said.kind
  pub text_is : text_at (codes "text") d ≡ Some said.text
  pub far_is : text_or_none (get (codes "far") d) ≡ Some said.far

abbrev pub message_kind_of : List ℕ → Option Kind
message_kind_of k = (if bytes_eq k (codes "out") then Some Output else if bytes_eq k (codes "in") then Some Input else if bytes_eq k (codes "lost") then Some OutputLost
    else if bytes_eq k (codes "found") then Some InputFound else None)

abbrev pub local_kind_of : List ℕ → Option Kind
local_kind_of k = (if bytes_eq k (codes "action") then Some Action else if bytes_eq k (codes "start") then Some TimerStart else if bytes_eq k (codes "stop") then Some TimerStop
    else if bytes_eq k (codes "timeout") then Some Timeout else if bytes_eq k (codes "create") then Some Create else None)

abbrev pub or_else : Option Kind → Option Kind → Option Kind
or_else (Some k) other = Some k
or_else None other = other

-- the kind that a text names
abbrev pub kind_of : List ℕ → Option Kind
kind_of k = or_else (message_kind_of k) (local_kind_of k)

-- the far end that a name is
pub record IsInstance (name : List ℕ) (far : Far) : Type 0 where
  pub is_name : IsName name
  pub is : far ≡ Instance name

abbrev pub IsEndBy : Bool → List ℕ → Far → Type 0
IsEndBy true name far = far ≡ Env
IsEndBy false name far = IsInstance name far

-- `env`, or a name
abbrev pub IsEnd : List ℕ → Far → Type 0
IsEnd name far = IsEndBy (bytes_eq name (codes "env")) name far

-- the far end of an output or input has to be there, that of a lost output or found input may be, that of a creation is its text, and no other kind has one
abbrev pub IsFarOf : Kind → List ℕ → Option (List ℕ) → Far → Type 0
IsFarOf Output text (Some name) far = IsEnd name far
IsFarOf Output text None far = ⊥
IsFarOf Input text (Some name) far = IsEnd name far
IsFarOf Input text None far = ⊥
IsFarOf OutputLost text (Some name) far = IsInstance name far
IsFarOf OutputLost text None far = far ≡ Nobody
IsFarOf InputFound text (Some name) far = IsInstance name far
IsFarOf InputFound text None far = far ≡ Nobody
IsFarOf Create text (Some name) far = ⊥
IsFarOf Create text None far = IsInstance text far
IsFarOf _ text (Some name) far = ⊥
IsFarOf _ text None far = far ≡ Nobody

-- the texts are those of this event
pub record IsSaid (version : Version) (said : Said) (label : Label) : Type 0 where
  pub at_name : IsName said.at
  pub at_is : label.at ≡ said.at
  pub kind_is : kind_of said.kind ≡ Some label.kind
  pub allowed : IsAllowed version label.kind
  pub text_is : Spelled (ReadsText label.kind) said.text label.text
  pub far_is : IsFarOf label.kind label.text said.far label.far

-- the members of an event are those of this one
pub record HasEvent (version : Version) (d : Data) (label : Label) : Type 0 where
  pub said : Said
  pub texts_are : SaysTexts d said
  pub is : IsSaid version said label

-- the value is an object that is this event, with no other member
pub record IsEventObject (version : Version) (d : Data) (label : Label) : Type 0 where
  pub only : HasMembers is_event_member d
  pub event : HasEvent version d label
