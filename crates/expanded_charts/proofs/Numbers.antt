-- The numbers of instances and labels: what has one keeps it.
use Rattle.std.proofs.Common.{◌≡◌, ◌∙◌, ℕ, Bool, true, false, List, [], ◌∷◌, ◌++◌, Option, Some, None, length, refl, sym, ap, cond, append-nil, append_assoc}
use Rattle.std.proofs.lemmas.Bool.{or_right, true≢false}
use Rattle.std.proofs.lemmas.Slice.Eq.{bytes_eq-Decides}
use Rattle.std.specs.List.{list_any, position}
use Rattle.std.specs.Option.{is_some, unwrap_or}
use Rattle.std.specs.Prelude.{option_map}
use Rattle.std.specs.Str.{bytes_eq}
use Rattle.label_table.proofs.Equality.{label_self}
use Rattle.label_table.specs.Labels.{label_number, same_label}
use Rattle.msc_base.proofs.NameFacts.{any_with_name, number_of_one, one_from_any}
use Rattle.msc_base.specs.Lists.{IsAmong}
use Rattle.msc_base.specs.NameTables.{with_name}
use Rattle.msc_base.specs.declared.label.Label.{Label}
use Rattle.expansion_tree.specs.declared.tree.ExpandedEvent.{ExpandedEvent}
use Rattle.expanded_charts.specs.Expanding.{NumberedEvent}
use Rattle.expanded_charts.specs.Making.{Extends, IsNumbered, IsSecond}
use Rattle.expanded_charts.specs.Numbering.{at_instances, with_event, with_label, with_second}
use Rattle.expanded_charts.specs.declared.numbering.Numbering.{Numbering}
use Rattle.expanded_charts.proofs.Positions.{found_any, none_any, position_last, position_left}

-- a name that was added has a number
pub name_numbered : (names now : List (List ℕ)) (n : List ℕ) → now ≡ with_name names n → None ≡ position (bytes_eq n) now → ⊥
name_numbered names now n is none =
    let there : IsAmong (with_name names n) n = one_from_any (with_name names n) n (any_with_name names n n ∙ or_right (list_any (bytes_eq n) names) (bytes_eq n n) ((bytes_eq-Decides n n).1 refl)) in
    true≢false (sym (number_of_one (with_name names n) n there) ∙ ap is_some (ap (position (bytes_eq n)) (sym is) ∙ sym none))

pub label_old : (labels : List Label) (l : Label) (n : ℕ) → label_number labels l ≡ Some n → labels ≡ with_label labels l
label_old labels l n h = let there = found_any (same_label l) labels n h in rw there refl

pub label_new : (labels : List Label) (l : Label) → label_number labels l ≡ None → labels ++ l ∷ [] ≡ with_label labels l
label_new labels l h = let none = none_any (same_label l) labels h in rw none refl

pub label_last : (labels : List Label) (l : Label) → label_number labels l ≡ None → label_number (labels ++ l ∷ []) l ≡ Some (length labels)
label_last labels l h = position_last (same_label l) labels l h (label_self l)

-- ---- more

pub record HasMore {X : Type 0} (xs ys : List X) : Type 0 where
  pub more : List X
  pub is : ys ≡ xs ++ more

one_more : {X : Type 0} (xs : List X) (x : X) (b : Bool) → HasMore xs (cond b xs (xs ++ x ∷ []))
one_more xs x true = record { more = []; is = sym (append-nil xs) }
one_more xs x false = record { more = x ∷ []; is = refl }

more_then : {X : Type 0} (xs ys zs : List X) → HasMore xs ys → HasMore ys zs → HasMore xs zs
more_then xs ys zs f g = record { more = f.more ++ g.more; is = g.is ∙ (ap (λ l. l ++ g.more) f.is ∙ append_assoc xs f.more g.more) }

name_more : (names : List (List ℕ)) (n : List ℕ) → HasMore names (with_name names n)
name_more names n = one_more names n (list_any (bytes_eq n) names)

second_more : (names : List (List ℕ)) (o : Option (List ℕ)) → HasMore names (with_second names o)
second_more names None = record { more = []; is = sym (append-nil names) }
second_more names (Some n) = name_more names n

label_more : (labels : List Label) (l : Label) → HasMore labels (with_label labels l)
label_more labels l = one_more labels l (list_any (same_label l) labels)

pub event_extends : (s : Numbering) (e : NumberedEvent) → Extends s (with_event s e)
event_extends s e =
    let names = more_then s.names (with_name s.names e.happening.label.at) (with_second (with_name s.names e.happening.label.at) e.happening.also) (name_more s.names e.happening.label.at) (second_more (with_name s.names e.happening.label.at) e.happening.also) in
    let labels = label_more s.labels e.happening.label in
    record { more_names = names.more; more_labels = labels.more; names = names.is; labels = labels.is }

-- ---- an event's numbers

kept : {X : Type 0} (p : X → Bool) (xs ys : List X) (n : ℕ) → HasMore xs ys → position p xs ≡ Some n → unwrap_or (position p ys) 0 ≡ n
kept p xs ys n h at = ap (λ l. unwrap_or (position p l) 0) h.is ∙ ap (λ (o : Option ℕ). unwrap_or o 0) (position_left p xs h.more n at)

second_kept : (xs ys : List (List ℕ)) (o : Option (List ℕ)) (also : Option ℕ) → HasMore xs ys → IsSecond xs o also → also ≡ option_map (λ i. unwrap_or (position (bytes_eq i) ys) 0) o
second_kept xs ys None also h is = is
second_kept xs ys (Some i) also h is = is.1 ∙ ap (λ n. Some n) (sym (kept (bytes_eq i) xs ys is.0 h is.2))

pub is_numbered : (s : Numbering) (e : NumberedEvent) (at label : ℕ) (also : Option ℕ) (made : ExpandedEvent) → position (bytes_eq e.happening.label.at) (with_name s.names e.happening.label.at) ≡ Some at
    → IsSecond (with_second (with_name s.names e.happening.label.at) e.happening.also) e.happening.also also → label_number (with_label s.labels e.happening.label) e.happening.label ≡ Some label → made ≡ at_instances e.number label at also
    → IsNumbered s (with_event s e) e made
is_numbered s e at label also made first second labelled made_is = record {
  extends = event_extends s e;
  seen = refl;
  are = λ later ext.
      let names : HasMore (with_second (with_name s.names e.happening.label.at) e.happening.also) later.names = record { more = ext.more_names; is = ext.names } in
      let labels : HasMore (with_label s.labels e.happening.label) later.labels = record { more = ext.more_labels; is = ext.labels } in
      let all : HasMore (with_name s.names e.happening.label.at) later.names =
      more_then (with_name s.names e.happening.label.at) (with_second (with_name s.names e.happening.label.at) e.happening.also) later.names (second_more (with_name s.names e.happening.label.at) e.happening.also) names in
      made_is
      ∙ (ap (λ l. at_instances e.number l at also) (sym (kept (same_label e.happening.label) (with_label s.labels e.happening.label) later.labels label labels labelled))
      ∙ (ap (λ a. at_instances e.number (unwrap_or (label_number later.labels e.happening.label) 0) a also) (sym (kept (bytes_eq e.happening.label.at) (with_name s.names e.happening.label.at) later.names at all first))
      ∙ ap (at_instances e.number (unwrap_or (label_number later.labels e.happening.label) 0) (unwrap_or (position (bytes_eq e.happening.label.at) later.names) 0))
      (second_kept (with_second (with_name s.names e.happening.label.at) e.happening.also) later.names e.happening.also also names second)));
}
