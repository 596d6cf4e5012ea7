-- What a JSON value says.
use Rattle.std.proofs.Common.{◌≡◌, ◌∙◌, ◌↔◌, ap, refl, sym, subst, true, false, Bool, IsTrue, List, ℕ, [], ◌∷◌, Option, Some, None, Result, Ok, Err, IfOk, MatchOption, codes, string_bytes, map, ◌&&◌, String, IsUtf8, All}
use Rattle.std.specs.declared.alloc.Global.{Global}
use Rattle.std.specs.List.{list_all}
use Rattle.std.specs.Str.{bytes_eq}
use Rattle.std.proofs.lemmas.Option.{same_Some, none-some}
use Rattle.serde_json.specs.Data.{Data}
use Rattle.serde_json.specs.Find.{as_object}
use Rattle.serde_json.specs.Read.{read}
use Rattle.serde_json.specs.View.{members_view}
use Rattle.serde_json.specs.declared.value.Value.{Value}
use Rattle.msc_base.specs.Names.{IsName}
use Rattle.msc_base.specs.declared.memory.NoMemory.{NoMemory}
use Rattle.msc_base.specs.declared.label.Label.{Label}
use Rattle.msc_base.specs.declared.label.Kind.{Kind}
use Rattle.msc_base.specs.declared.label.Kind.TheVariants.{Output, Input, OutputLost, InputFound, Action, TimerStart, TimerStop, Timeout, Create}
use Rattle.msc_base.specs.declared.label.Far.{Far}
use Rattle.msc_events.specs.LogEvents.{ReadsText}
use Rattle.event_log.specs.Meanings.{SaysBy, LineSays}
use Rattle.msc_tokens.specs.Spelling.{IsBlank}
use Rattle.msc_base.specs.Only.{Never, Only}
use Rattle.event_log.specs.Objects.{Spelled, Written, IsAllowed, all_members, HasMembers, IsVersionObject, Said, kind_of, IsEndBy, IsFarOf, IsSaid, HasEvent, IsEventObject, is_event_member}
use Rattle.event_log.specs.Rules.{Rules}
use Rattle.event_log.specs.declared.event.LogForm.TheVariants.{Json}
use Rattle.event_log.specs.declared.event.Version.{Version}
use Rattle.event_log.specs.declared.line.Line.{Line}
use Rattle.event_log.specs.declared.line.Line.TheVariants.{Blank, VersionLine, Event, NoEvent}

known_members : (p : List ℕ → Bool) (es : List (String Global × Value)) → all_members p (members_view es) ≡ list_all (λ k. p (string_bytes k)) (map (λ e. e.0) es)
known_members p [] = refl
known_members p (e ∷ es) = ap (λ b. p (string_bytes e.0) && b) (known_members p es)

pub has_members : (p : List ℕ → Bool) (d : Data) (es : List (String Global × Value)) (r : Bool) → as_object d ≡ Some (members_view es) → r ≡ list_all (λ k. p (string_bytes k)) (map (λ e. e.0) es) → IsTrue r ↔ HasMembers p d
has_members p d es r o e = (forth, back)
  where
    forth : IsTrue r → HasMembers p d
    forth t = record { members = members_view es; object = o; pass = known_members p es ∙ sym e ∙ t }

    back : HasMembers p d → IsTrue r
    back h = e ∙ sym (known_members p es) ∙ ap (all_members p) (same_Some (members_view es) h.members (sym o ∙ h.object)) ∙ h.pass

same_kind : (version : Version) (said : Said) (kind : Kind) (l : Label) → kind_of said.kind ≡ Some kind → IsSaid version said l → l.kind ≡ kind
same_kind version said kind l k h = same_Some l.kind kind (sym h.kind_is ∙ k)

text_said : (version : Version) (said : Said) (kind : Kind) (l : Label) → kind_of said.kind ≡ Some kind → IsSaid version said l → Spelled (ReadsText kind) said.text l.text
text_said version said kind l k h = subst (λ j. Spelled (ReadsText j) said.text l.text) (same_kind version said kind l k h) h.text_is

-- the text has no reading for its kind
pub no_text : (version : Version) (said : Said) (kind : Kind) → kind_of said.kind ≡ Some kind → Never (Spelled (ReadsText kind) said.text) → Never (IsSaid version said)
no_text version said kind k none = λ l h. none l.text (text_said version said kind l k h)

far_said : (version : Version) (said : Said) (kind : Kind) (text : List ℕ) (l : Label) → kind_of said.kind ≡ Some kind → Only (Spelled (ReadsText kind) said.text) text → IsSaid version said l
    → IsFarOf kind text said.far l.far
far_said version said kind text l k t h =
    subst (λ u. IsFarOf kind u said.far l.far) (t.alone l.text (text_said version said kind l k h)) (subst (λ j. IsFarOf j l.text said.far l.far) (same_kind version said kind l k h) h.far_is)

-- there is no such far end
pub no_far : (version : Version) (said : Said) (kind : Kind) (text : List ℕ) → kind_of said.kind ≡ Some kind → Only (Spelled (ReadsText kind) said.text) text → Never (IsFarOf kind text said.far)
    → Never (IsSaid version said)
no_far version said kind text k t none = λ l h. none l.far (far_said version said kind text l k t h)

one_end : (b : Bool) (name : List ℕ) (far other : Far) → IsEndBy b name far → IsEndBy b name other → other ≡ far
one_end true name far other h g = g ∙ sym h
one_end false name far other h g = g.is ∙ sym h.is

-- an event has one far end
one_far : (kind : Kind) (text : List ℕ) (member : Option (List ℕ)) (far other : Far) → IsFarOf kind text member far → IsFarOf kind text member other → other ≡ far
one_far Output text None far other h g = absurd h
one_far Output text (Some name) far other h g = one_end (bytes_eq name (codes "env")) name far other h g
one_far Input text None far other h g = absurd h
one_far Input text (Some name) far other h g = one_end (bytes_eq name (codes "env")) name far other h g
one_far OutputLost text None far other h g = g ∙ sym h
one_far OutputLost text (Some name) far other h g = g.is ∙ sym h.is
one_far InputFound text None far other h g = g ∙ sym h
one_far InputFound text (Some name) far other h g = g.is ∙ sym h.is
one_far Create text None far other h g = g.is ∙ sym h.is
one_far Create text (Some name) far other h g = absurd h
one_far Action text None far other h g = g ∙ sym h
one_far Action text (Some name) far other h g = absurd h
one_far TimerStart text None far other h g = g ∙ sym h
one_far TimerStart text (Some name) far other h g = absurd h
one_far TimerStop text None far other h g = g ∙ sym h
one_far TimerStop text (Some name) far other h g = absurd h
one_far Timeout text None far other h g = g ∙ sym h
one_far Timeout text (Some name) far other h g = absurd h

same_label : (at at2 text text2 : List ℕ) (kind kind2 : Kind) (far far2 : Far) → at ≡ at2 → kind ≡ kind2 → text ≡ text2 → far ≡ far2
    → ◌≡◌ {A = Label} (record { at = at; kind = kind; text = text; far = far }) (record { at = at2; kind = kind2; text = text2; far = far2 })
same_label at at2 text text2 kind kind2 far far2 a k t f = cc

-- the texts are this event and no other
pub only_said : (version : Version) (said : Said) (kind : Kind) (at text : List ℕ) (far : Far) → kind_of said.kind ≡ Some kind → IsAllowed version kind → IsName said.at → at ≡ said.at
    → Only (Spelled (ReadsText kind) said.text) text → IsFarOf kind text said.far far → Only (IsSaid version said) (record { at = at; kind = kind; text = text; far = far })
only_said version said kind at text far k allowed name a t f = record {
  holds = record { at_name = name; at_is = a; kind_is = k; allowed = allowed; text_is = t.holds; far_is = f };
  alone = λ l h. same_label l.at at l.text text l.kind kind l.far far (h.at_is ∙ sym a) (same_kind version said kind l k h)
      (t.alone l.text (text_said version said kind l k h)) (one_far kind text said.far far l.far f (far_said version said kind text l k t h));
}

-- an object whose members are those of an event alone is the event that they say
pub only_event : {T : Type 0} (version : Version) (d : Data) (answer : Result (Option Label) T) → HasMembers is_event_member d
    → IfOk answer (λ found. MatchOption found (Never (HasEvent version d)) (λ label. Only (HasEvent version d) label))
    → IfOk answer (λ found. MatchOption found (Never (IsEventObject version d)) (λ label. Only (IsEventObject version d) label))
only_event version d (Ok None) members h = λ label is. h label is.event
only_event version d (Ok (Some label)) members h = record { holds = record { only = members; event = h.holds }; alone = λ other is. h.alone other is.event }
only_event version d (Err e) members h = tt

only_written : {A : Type 0} (P : Data → A → Type 0) (line : List ℕ) (d : Data) (x : A) → IsUtf8 line → read line ≡ Some d → Only (P d) x → Only (Written P line) x
only_written P line d x utf8 r o = record {
  holds = record { utf8 = utf8; value = d; reads = r; is = o.holds };
  alone = λ y p. o.alone y (subst (λ v. P v y) (same_Some p.value d (sym p.reads ∙ r)) p.is);
}

never_written : {A : Type 0} (P : Data → A → Type 0) (line : List ℕ) (d : Data) → read line ≡ Some d → Never (P d) → Never (Written P line)
never_written P line d r n = λ y p. n y (subst (λ v. P v y) (same_Some p.value d (sym p.reads ∙ r)) p.is)

says_value : {S E K : Type 0} (r : Rules S E K) (version : Version) (number : ℕ) (line : List ℕ) (d : Data) (m : Line S) → (All IsBlank line → ⊥) → IsUtf8 line → read line ≡ Some d
    → SaysBy (IsVersionObject d) (r.value_is version d) number m → LineSays r Json version number line m
says_value r version number line d Blank full utf8 e h = absurd h
says_value r version number line d (VersionLine stated) full utf8 e h = (full, (h.0, only_written IsVersionObject line d stated utf8 e h.1))
says_value r version number line d (Event event) full utf8 e h = (full, (λ first. never_written IsVersionObject line d e (h.0 first), only_written (r.value_is version) line d event utf8 e h.1))
says_value r version number line d NoEvent full utf8 e h = (full, (λ first. never_written IsVersionObject line d e (h.0 first), never_written (r.value_is version) line d e h.1))

-- what the value says is what the line says
pub says_written : {S E K : Type 0} (r : Rules S E K) (version : Version) (number : ℕ) (line : List ℕ) (d : Data) (answer : Result (Line S) NoMemory) → (All IsBlank line → ⊥) → IsUtf8 line → read line ≡ Some d
    → IfOk answer (λ m. SaysBy (IsVersionObject d) (r.value_is version d) number m) → IfOk answer (λ m. LineSays r Json version number line m)
says_written r version number line d (Ok m) full utf8 e h = says_value r version number line d m full utf8 e h
says_written r version number line d (Err x) full utf8 e h = tt

no_value : (line : List ℕ) (d : Data) → (IsUtf8 line → read line ≡ None) → IsUtf8 line → read line ≡ Some d → ⊥
no_value line d none utf8 r = none-some d (sym (sym r ∙ none utf8))

-- bytes that are no value say nothing
pub says_unwritten : {S E K : Type 0} (r : Rules S E K) (version : Version) (number : ℕ) (line : List ℕ) → (All IsBlank line → ⊥) → (IsUtf8 line → read line ≡ None) → LineSays r Json version number line NoEvent
says_unwritten r version number line full none = (full, (λ first. λ y p. no_value line p.value none p.utf8 p.reads, λ y p. no_value line p.value none p.utf8 p.reads))
