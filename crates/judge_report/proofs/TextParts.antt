-- A text is written part by part.
use Rattle.std.proofs.Common.{◌≡◌, ◌≤◌, ◌+◌, List, ℕ, length, ◌++◌, arith, sym, ap, ◌∙◌, take, drop, Option, Some, None, append-nil, append_assoc, subst}
use Rattle.std.proofs.lemmas.List.{take_all, take-take, drop-take, take-append-drop}
use Rattle.std.specs.Io.KnownBytes.{Appends, Keeps}

pub take_more : (n m : ℕ) (xs : List ℕ) → take n xs ++ take m (drop n xs) ≡ take (n + m) xs
take_more n m xs =
    ap (λ (us : List ℕ). us ++ take m (drop n xs)) (sym (take-take n (n + m) xs (omega arith)))
    ∙ ap (λ (us : List ℕ). take n (take (n + m) xs) ++ us) (sym (drop-take n m xs))
    ∙ take-append-drop n (take (n + m) xs)

pub appends_more : (old mid new : Option (List ℕ)) (text rest : List ℕ) (at n : ℕ) → Appends old mid (take at text) → rest ≡ drop at text → Appends mid new (take n rest) → Appends old new (take (at + n) text)
appends_more None mid new text rest at n h e k = tt
appends_more (Some xs) None new text rest at n h e k = absurd h
appends_more (Some xs) (Some ys) None text rest at n h e k = absurd k
appends_more (Some xs) (Some ys) (Some zs) text rest at n h e k =
    k ∙ ap (λ (us : List ℕ). us ++ take n rest) h ∙ append_assoc xs (take at text) (take n rest) ∙ ap (λ (us : List ℕ). xs ++ us) (ap (λ (us : List ℕ). take at text ++ take n us) e ∙ take_more at n text)

pub appends_kept : (old mid new : Option (List ℕ)) (part : List ℕ) → Appends old mid part → Keeps mid new → Appends old new part
appends_kept None mid new part h k = tt
appends_kept (Some xs) None new part h k = absurd h
appends_kept (Some xs) (Some ys) None part h k = absurd k
appends_kept (Some xs) (Some ys) (Some zs) part h k = k ∙ h

pub appends_none : (old : Option (List ℕ)) (text : List ℕ) → Appends old old (take 0 text)
appends_none None text = tt
appends_none (Some xs) text = sym (append-nil xs)

pub appends_all : (old new : Option (List ℕ)) (text : List ℕ) (at : ℕ) → length text ≤ at → Appends old new (take at text) → Appends old new text
appends_all old new text at long h = subst (Appends old new) (take_all at text long) h
