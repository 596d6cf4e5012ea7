-- What the lines of a log of many sessions are.
use Rattle.std.proofs.Common.{◌≡◌, ◌++◌, ℕ, List, [], ◌∷◌, Option, Some, refl, sym, ap, ◌∙◌, subst, codes}
use Rattle.std.proofs.lemmas.Option.{same_Some}
use Rattle.serde_json.specs.Data.{Data}
use Rattle.msc_base.specs.Names.{IsName}
use Rattle.msc_base.specs.Only.{Never, Only}
use Rattle.msc_base.specs.declared.label.Label.{Label}
use Rattle.event_log.specs.Meanings.{IsEventOf}
use Rattle.event_log.specs.Objects.{HasMembers, HasEvent, text_at}
use Rattle.event_log.specs.declared.event.Version.{Version}
use Rattle.session_log.specs.Sessions.{IsKeyedEvent, IsKeyedObject, is_session_member}
use Rattle.session_log.specs.declared.keyed.KeyedLabel.{KeyedLabel}

first_of : List (List ℕ) → List ℕ
first_of [] = []
first_of (x ∷ xs) = x

behind_two : List (List ℕ) → List (List ℕ)
behind_two [] = []
behind_two (x ∷ []) = []
behind_two (x ∷ y ∷ xs) = xs

same_key : (k l : List ℕ) (s t : List ℕ) (xs ys : List (List ℕ)) → k ∷ s ∷ xs ≡ l ∷ t ∷ ys → k ≡ l
unfolding first_of
same_key k l s t xs ys h = ap first_of h

same_rest : (k l : List ℕ) (s t : List ℕ) (xs ys : List (List ℕ)) → k ∷ s ∷ xs ≡ l ∷ t ∷ ys → xs ≡ ys
unfolding behind_two
same_rest k l s t xs ys h = ap behind_two h

same_event : (key other : List ℕ) (label another : Label) → key ≡ other → label ≡ another → ◌≡◌ {A = KeyedLabel} (record { key = key; label = label }) (record { key = other; label = another })
same_event key other label another k l = cc

-- the tokens are this event of a session and no other
pub only_keyed : (version : Version) (tokens : List (List ℕ)) (key : List ℕ) (rest : List (List ℕ)) (label : Label) → tokens ≡ key ∷ codes "=" ∷ rest → IsName key → Only (IsEventOf version rest) label
    → Only (IsKeyedEvent version tokens) (record { key = key; label = label })
only_keyed version tokens key rest label are name only = record {
  holds = record { rest = rest; are = are; name = name; is = only.holds };
  alone = λ y h.
      let both : y.key ∷ codes "=" ∷ h.rest ≡ key ∷ codes "=" ∷ rest = sym h.are ∙ are in
      let rests : h.rest ≡ rest = same_rest y.key key (codes "=") (codes "=") h.rest rest both in
      same_event y.key key y.label label (same_key y.key key (codes "=") (codes "=") h.rest rest both) (only.alone y.label (subst (λ ts. IsEventOf version ts y.label) rests h.is));
}

-- they aren't one where the first is no name
pub no_name : (version : Version) (tokens : List (List ℕ)) (key : List ℕ) (rest : List (List ℕ)) → tokens ≡ key ∷ codes "=" ∷ rest → (IsName key → ⊥) → Never (IsKeyedEvent version tokens)
no_name version tokens key rest are none = λ y h. none (subst IsName (same_key y.key key (codes "=") (codes "=") h.rest rest (sym h.are ∙ are)) h.name)

-- nor where those behind `=` are no event
pub no_event : (version : Version) (tokens : List (List ℕ)) (key : List ℕ) (rest : List (List ℕ)) → tokens ≡ key ∷ codes "=" ∷ rest → Never (IsEventOf version rest) → Never (IsKeyedEvent version tokens)
no_event version tokens key rest are none = λ y h. none y.label (subst (λ ts. IsEventOf version ts y.label) (same_rest y.key key (codes "=") (codes "=") h.rest rest (sym h.are ∙ are)) h.is)

-- nor where they don't begin with a key
pub no_key : (version : Version) (tokens : List (List ℕ)) → ((key : List ℕ) (rest : List (List ℕ)) → tokens ≡ key ∷ codes "=" ∷ rest → ⊥) → Never (IsKeyedEvent version tokens)
no_key version tokens none = λ y h. none y.key h.rest h.are

-- the value is this event of a session and no other
pub only_object : (version : Version) (d : Data) (key : List ℕ) (label : Label) → HasMembers is_session_member d → text_at (codes "session") d ≡ Some key → IsName key → Only (HasEvent version d) label
    → Only (IsKeyedObject version d) (record { key = key; label = label })
only_object version d key label members at name only = record {
  holds = record { only = members; key_is = at; name = name; is = only.holds };
  alone = λ y h. same_event y.key key y.label label (same_Some y.key key (sym h.key_is ∙ at)) (only.alone y.label h.is);
}
