-- What a search waits for and has met.
use Rattle.std.proofs.Common.{ℕ, ◌≡◌, ◌⊎◌, ◌++◌, List, [], ◌∷◌, refl, sym, subst, inl, inr}
use Rattle.msc_base.specs.Lists.{IsAmong}
use Rattle.list_facts.proofs.Members.{among_left, among_snoc, snoc_among}
use Rattle.chart_term.specs.Tables.{Tables}
use Rattle.chart_term.specs.Terms.{TermEvent, Tree}
use Rattle.term_permission.specs.Ready.{IsReady}
use Rattle.term_firsts.specs.Firsts.{AreReady, Awaits, CanTake, Hands, IsInOne, IsMet, Meets}
use Rattle.term_firsts.specs.declared.search.Search.{Search}

-- a search with these labels and terms
module _ (old new : Search) (keeps_labels : (n : ℕ) → IsAmong old.labels.items n → IsAmong new.labels.items n) (keeps_terms : (x : Tree) → IsAmong old.waiting.items x → IsAmong new.waiting.items x) where
  grown : (w : Tables) (e : TermEvent) → IsMet w old e → IsMet w new e
  grown w e (inl i) = inl (keeps_labels e.label i)
  grown w e (inr h) = inr (record { term = h.term; among = keeps_terms h.term h.among; taken = h.taken })

waits : (w : Tables) (s : Search) (x : Tree) (e : TermEvent) → IsAmong s.waiting.items x → CanTake w x e → IsMet w s e
waits w s x e i t = inr (record { term = x; among = i; taken = t })

pub begins : (s : Search) (x : Tree) → s.waiting.items ≡ x ∷ [] → (w : Tables) (e : TermEvent) → CanTake w x e → IsMet w s e
begins s x is w e t = waits w s x e (subst (λ (l : List Tree). IsAmong l x) (sym is) (inl refl)) t

pub begins_ready : (s : Search) (x : Tree) → s.waiting.items ≡ x ∷ [] → (w : Tables) → IsReady w x → AreReady w s
begins_ready s x is w h y i = alone (subst (λ (l : List Tree). IsAmong l y) is i)
  where
    alone : IsAmong (x ∷ []) y → IsReady w y
    alone (inl e) = subst (λ (z : Tree). IsReady w z) (sym e) h
    alone (inr b) = absurd b

pub awaits : (old new : Search) (x : Tree) → new.labels.items ≡ old.labels.items → new.waiting.items ≡ old.waiting.items ++ x ∷ [] → Awaits x old new
awaits old new x same is = record {
  keeps = grown old new (λ n i. subst (λ (l : List ℕ). IsAmong l n) (sym same) i) (λ y i. at y (inl i));
  comes = λ w e t. waits w new x e (at x (inr refl)) t;
  ready = λ w h r y i. either w h r y (among_snoc old.waiting.items x y (subst (λ (l : List Tree). IsAmong l y) is i));
}
  where
    at : (y : Tree) → IsAmong old.waiting.items y ⊎ (y ≡ x) → IsAmong new.waiting.items y
    at y i = subst (λ (l : List Tree). IsAmong l y) (sym is) (snoc_among old.waiting.items x y i)

    either : (w : Tables) → IsReady w x → AreReady w old → (y : Tree) → IsAmong old.waiting.items y ⊎ (y ≡ x) → IsReady w y
    either w h r y (inl i) = r y i
    either w h r y (inr e) = subst (λ (z : Tree). IsReady w z) (sym e) h

pub meets : (old new : Search) (label : ℕ) → new.waiting.items ≡ old.waiting.items → new.labels.items ≡ old.labels.items ++ label ∷ [] → Meets label old new
meets old new label same is = record {
  keeps = grown old new (λ n i. at n (inl i)) (λ y i. subst (λ (l : List Tree). IsAmong l y) (sym same) i);
  comes = λ w e q. inl (at e.label (inr q));
  ready = λ w r y i. r y (subst (λ (l : List Tree). IsAmong l y) same i);
}
  where
    at : (n : ℕ) → IsAmong old.labels.items n ⊎ (n ≡ label) → IsAmong new.labels.items n
    at n i = subst (λ (l : List ℕ). IsAmong l n) (sym is) (snoc_among old.labels.items label n i)

pub hands : (old new : Search) (x : Tree) → new.labels.items ≡ old.labels.items → old.waiting.items ≡ new.waiting.items ++ x ∷ [] → Hands x old new
hands old new x same is = record { rest = rest; first = λ w r. r x (at x (inr refl)); ready = λ w r y i. r y (at y (inl i)) }
  where
    at : (y : Tree) → IsAmong new.waiting.items y ⊎ (y ≡ x) → IsAmong old.waiting.items y
    at y i = subst (λ (l : List Tree). IsAmong l y) (sym is) (snoc_among new.waiting.items x y i)

    split : (w : Tables) (e : TermEvent) (h : IsInOne w old.waiting.items e) → IsAmong new.waiting.items h.term ⊎ (h.term ≡ x) → CanTake w x e ⊎ IsMet w new e
    split w e h (inl i) = inr (waits w new h.term e i h.taken)
    split w e h (inr q) = inl (subst (λ (z : Tree). CanTake w z e) q h.taken)

    rest : (w : Tables) (e : TermEvent) → IsMet w old e → CanTake w x e ⊎ IsMet w new e
    rest w e (inl i) = inr (inl (subst (λ (l : List ℕ). IsAmong l e.label) (sym same) i))
    rest w e (inr h) = split w e h (among_snoc new.waiting.items x h.term (subst (λ (l : List Tree). IsAmong l h.term) is h.among))

pub ruleset waiting = (begins, begins_ready, awaits, meets, hands)
