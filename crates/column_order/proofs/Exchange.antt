-- Edges between neighbours ask for as much as the relation that they make up.
use Rattle.std.proofs.Common.{ℕ, List, [], ◌∷◌, ◌++◌, ◌⊎◌, inl, inr, sym, subst, append-nil, append_assoc}
use Rattle.msc_base.specs.Lists.{IsAmong}
use Rattle.list_facts.proofs.Members.{among_left}
use Rattle.column_order.specs.Orders.{IsDue, IsNext, IsWhole, IsStuckAt}
use Rattle.column_order.proofs.Agree.{Follows, to_follows, from_follows}

pub has_either : (xs ys : List ℕ) (x : ℕ) → IsAmong (xs ++ ys) x → IsAmong xs x ⊎ IsAmong ys x
has_either [] ys x h = inr h
has_either (y ∷ xs) ys x (inl e) = inl (inl e)
has_either (y ∷ xs) ys x (inr h) = elim (has_either xs ys x h) [ inl l ↦ inl (inr l) | inr r ↦ inr r ]

-- near says no more than far, and far is near with, perhaps, more of far before it
pub record MakesUp (near far : ℕ → ℕ → Type 0) : Type 0 where
  pub within : (y x : ℕ) → near y x → far y x
  pub steps : (y x : ℕ) → far y x → near y x ⊎ ((z : ℕ) × far y z × near z x)

module _ (n : ℕ) (near far : ℕ → ℕ → Type 0) (made : MakesUp near far) where
  abbrev Closed : List ℕ → Type 0
  Closed prefix = (y z : ℕ) → IsAmong prefix z → far y z → IsAmong prefix y

  due_far : (prefix : List ℕ) (x : ℕ) → Closed prefix → IsDue n near prefix x → IsDue n far prefix x
  due_far prefix x closed d = record {
    inside = d.inside;
    remains = d.remains;
    ready = λ y p. elim (made.steps y x p) [ inl e ↦ d.ready y e | inr t ↦ closed y t.0 (d.ready t.0 t.2) t.1 ];
  }

  due_near : (prefix : List ℕ) (x : ℕ) → IsDue n far prefix x → IsDue n near prefix x
  due_near prefix x d = record { inside = d.inside; remains = d.remains; ready = λ y e. d.ready y (made.within y x e) }

  next_far : (prefix : List ℕ) (x : ℕ) → Closed prefix → IsNext n near prefix x → IsNext n far prefix x
  next_far prefix x closed h = record { due = due_far prefix x closed h.due; earliest = λ y d. h.earliest y (due_near prefix y d) }

  next_near : (prefix : List ℕ) (x : ℕ) → Closed prefix → IsNext n far prefix x → IsNext n near prefix x
  next_near prefix x closed h = record { due = due_near prefix x h.due; earliest = λ y d. h.earliest y (due_far prefix y closed d) }

  closed_snoc : (prefix : List ℕ) (x : ℕ) → Closed prefix → IsDue n far prefix x → Closed (prefix ++ x ∷ [])
  closed_snoc prefix x closed d y z h p = elim (has_either prefix (x ∷ []) z h) [
    | inl l ↦ among_left prefix (x ∷ []) y (closed y z l p)
    | inr r ↦ elim r [ inl e ↦ among_left prefix (x ∷ []) y (d.ready y (subst (λ (w : ℕ). far y w) e p)) | inr b ↦ absurd b ]
  ]

  pub follows_far : (prefix xs : List ℕ) → Closed prefix → Follows n near prefix xs → Follows n far prefix xs
  follows_far prefix [] closed f = tt
  follows_far prefix (x ∷ xs) closed f =
      let h : IsNext n far prefix x = next_far prefix x closed f.0 in
      (h, follows_far (prefix ++ x ∷ []) xs (closed_snoc prefix x closed h.due) f.1)

  pub follows_near : (prefix xs : List ℕ) → Closed prefix → Follows n far prefix xs → Follows n near prefix xs
  follows_near prefix [] closed f = tt
  follows_near prefix (x ∷ xs) closed f = (next_near prefix x closed f.0, follows_near (prefix ++ x ∷ []) xs (closed_snoc prefix x closed f.0.due) f.1)

  pub closed_follows : (prefix xs : List ℕ) → Closed prefix → Follows n far prefix xs → Closed (prefix ++ xs)
  closed_follows prefix [] closed f = subst (λ (l : List ℕ). Closed l) (sym (append-nil prefix)) closed
  closed_follows prefix (x ∷ xs) closed f = rw append_assoc at (closed_follows (prefix ++ x ∷ []) xs (closed_snoc prefix x closed f.0.due) f.1)

  none : Closed []
  none y z h p = h

  pub whole_far : (order : List ℕ) → IsWhole n near order → IsWhole n far order
  whole_far order w = record { every = w.every; earliest = from_follows n far [] order (follows_far [] order none (to_follows n near [] order w.earliest)) }

  pub whole_near : (order : List ℕ) → IsWhole n far order → IsWhole n near order
  whole_near order w = record { every = w.every; earliest = from_follows n near [] order (follows_near [] order none (to_follows n far [] order w.earliest)) }

  pub stuck_far : (x : ℕ) → IsStuckAt n near x → IsStuckAt n far x
  stuck_far x s = record {
    prefix = s.prefix;
    earliest = from_follows n far [] s.prefix (follows_far [] s.prefix none (to_follows n near [] s.prefix s.earliest));
    stuck = λ y d. s.stuck y (due_near s.prefix y d);
    inside = s.inside;
    remains = s.remains;
    first = s.first;
  }
