-- The keys of events, and the events of each key, with one event more.
use Rattle.std.proofs.Common.{◌≡◌, ◌⊎◌, ◌++◌, ◌∷◌, ℕ, Bool, true, false, cond, List, [], map, fold, refl, sym, ap, ◌∙◌, subst, inl, inr, ◌||◌, append-nil}
use Rattle.std.proofs.lemmas.Bool.{true≢false, false_from_ne_true}
use Rattle.std.proofs.lemmas.List.Elements.{filter-append}
use Rattle.std.proofs.lemmas.List.Sums.{fold_push}
use Rattle.std.proofs.lemmas.Slice.Eq.{bytes_eq-Decides}
use Rattle.std.specs.List.{filter, list_any}
use Rattle.std.specs.Str.{bytes_eq}
use Rattle.msc_base.specs.Lists.{AreDifferent, IsAmong}
use Rattle.msc_base.specs.NameTables.{with_name}
use Rattle.line_events.specs.declared.event.LineEvent.{LineEvent}
use Rattle.session_log.specs.declared.keyed.KeyedEvent.{KeyedEvent}
use Rattle.session_judge.specs.SessionEvents.{events_of, keys_of, line_event}
use Rattle.msc_base.proofs.NameFacts.{any_folded, any_from_one, one_from_any, with_new, with_old}
use Rattle.list_facts.proofs.Tables.{different_with_name}

-- a list with one item more, item by item
map_snoc : {A B : Type 0} (f : A → B) (xs : List A) (x : A) → map f (xs ++ x ∷ []) ≡ map f xs ++ f x ∷ []
map_snoc f [] x = refl
map_snoc f (y ∷ xs) x = ap (λ (zs : List _). f y ∷ zs) (map_snoc f xs x)

-- names that are put together differ
different_folded : (names more : List (List ℕ)) → AreDifferent names → AreDifferent (fold with_name names more)
different_folded names [] d = d
different_folded names (n ∷ more) d = different_folded (with_name names n) more (different_with_name names n d)

-- the key of an event
abbrev key_in : KeyedEvent → List ℕ
key_in e = e.key

pub keys_differ : (es : List KeyedEvent) → AreDifferent (keys_of es)
keys_differ es = different_folded [] (map key_in es) tt

pub keys_more : (es : List KeyedEvent) (e : KeyedEvent) → keys_of (es ++ e ∷ []) ≡ with_name (keys_of es) e.key
keys_more es e = ap (λ (ns : List (List ℕ)). fold with_name [] ns) (map_snoc key_in es e) ∙ fold_push with_name [] (map key_in es) e.key

-- with an event of a known key, and of a new one
pub keys_known : (es : List KeyedEvent) (e : KeyedEvent) → IsAmong (keys_of es) e.key → keys_of (es ++ e ∷ []) ≡ keys_of es
keys_known es e h = keys_more es e ∙ with_old (keys_of es) e.key h

pub keys_new : (es : List KeyedEvent) (e : KeyedEvent) → (IsAmong (keys_of es) e.key → ⊥) → keys_of (es ++ e ∷ []) ≡ keys_of es ++ e.key ∷ []
keys_new es e none = keys_more es e ∙ with_new (keys_of es) e.key none

-- an event is one more of its key, and none of another
more_of : (es : List KeyedEvent) (e : KeyedEvent) (key : List ℕ) (b : Bool) → bytes_eq e.key key ≡ b → events_of key (es ++ e ∷ []) ≡ events_of key es ++ map line_event (cond b (e ∷ []) [])
more_of es e key b is =
    let test = λ (d : KeyedEvent). bytes_eq d.key key in
    let one : filter test (e ∷ []) ≡ cond b (e ∷ []) [] = ap (λ (t : Bool). cond t (e ∷ []) []) is in
    ap (λ (ds : List KeyedEvent). map line_event ds) (filter-append test es (e ∷ []) ∙ ap (λ (ds : List KeyedEvent). filter test es ++ ds) one) ∙ split b (filter test es)
  where
    split : (t : Bool) (ds : List KeyedEvent) → map line_event (ds ++ cond t (e ∷ []) []) ≡ map line_event ds ++ map line_event (cond t (e ∷ []) [])
    split true ds = map_snoc line_event ds e
    split false ds = ap (λ (zs : List KeyedEvent). map line_event zs) (append-nil ds) ∙ sym (append-nil (map line_event ds))

pub events_same : (es : List KeyedEvent) (e : KeyedEvent) (key : List ℕ) → e.key ≡ key → events_of key (es ++ e ∷ []) ≡ events_of key es ++ line_event e ∷ []
events_same es e key is = more_of es e key true ((bytes_eq-Decides e.key key).1 is)

pub events_other : (es : List KeyedEvent) (e : KeyedEvent) (key : List ℕ) → (e.key ≡ key → ⊥) → events_of key (es ++ e ∷ []) ≡ events_of key es
events_other es e key differs =
    more_of es e key false (false_from_ne_true (bytes_eq e.key key) (λ t. differs ((bytes_eq-Decides e.key key).0 t))) ∙ append-nil (events_of key es)

-- a key that none of the events has
none_kept : (es : List KeyedEvent) (key : List ℕ) → list_any (bytes_eq key) (map key_in es) ≡ false → filter (λ (e : KeyedEvent). bytes_eq e.key key) es ≡ []
none_kept [] key h = refl
none_kept (e ∷ es) key h = by (bytes_eq e.key key) refl (none_kept es key)
  where
    by : (b : Bool) → bytes_eq e.key key ≡ b → (list_any (bytes_eq key) (map key_in es) ≡ false → filter (λ (d : KeyedEvent). bytes_eq d.key key) es ≡ [])
        → cond (bytes_eq e.key key) (e ∷ filter (λ (d : KeyedEvent). bytes_eq d.key key) es) (filter (λ (d : KeyedEvent). bytes_eq d.key key) es) ≡ []
    by true is rest =
        let same : key ≡ e.key = sym ((bytes_eq-Decides e.key key).0 is) in
        absurd (true≢false (sym (any_from_one (map key_in (e ∷ es)) key (inl same)) ∙ h))
    by false is rest =
        let others = false_from_ne_true (list_any (bytes_eq key) (map key_in es)) (λ t. true≢false (sym (any_from_one (map key_in (e ∷ es)) key (inr (one_from_any (map key_in es) key t))) ∙ h)) in
        ap (λ (t : Bool). cond t (e ∷ filter (λ (d : KeyedEvent). bytes_eq d.key key) es) (filter (λ (d : KeyedEvent). bytes_eq d.key key) es)) is ∙ rest others

pub events_none : (es : List KeyedEvent) (key : List ℕ) → (IsAmong (keys_of es) key → ⊥) → events_of key es ≡ []
events_none es key none =
    let lacks : list_any (bytes_eq key) (map key_in es) ≡ false = sym (any_folded [] (map key_in es) key) ∙ false_from_ne_true (list_any (bytes_eq key) (keys_of es)) (λ t. none (one_from_any (keys_of es) key t)) in
    ap (λ (ds : List KeyedEvent). map line_event ds) (none_kept es key lacks)
