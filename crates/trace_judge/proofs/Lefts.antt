-- What is left after one label more.
use Rattle.std.specs.Prelude.{ℕ, ◌≡◌, List, [], ◌∷◌, ◌++◌, Some, refl}
use Rattle.std.proofs.Common.{ap, sym, ◌∙◌, subst}
use Rattle.msc_base.specs.declared.label.Label.{Label}
use Rattle.term_tables.specs.NetValues.{NetsValue, label_number}
use Rattle.chart_term.specs.NormalForms.{NetPermits}
use Rattle.chart_term.specs.Terms.{TermEvent, Tree}
use Rattle.term_laws.specs.Permission.{permits_of}
use Rattle.term_laws.specs.Residuals.{IsResidual, res_none, res_more}
use Rattle.term_successors.specs.Successors.{IsSuccessor}
use Rattle.term_laws.specs.Taking.{IsAfter}
use Rattle.trace_judge.specs.Logs.{AreNumbers, IsLeft}

-- by numbers

record Cut (k : NetPermits) (x z : Tree) (a : ℕ) (l : List ℕ) : Type 0 where
  pub event : TermEvent
  pub term : Tree
  pub is : event.label ≡ a
  pub after : IsAfter k x event term
  pub left : IsResidual k term l z

cut : (k : NetPermits) (x z : Tree) (a : ℕ) (l : List ℕ) → IsResidual k x (a ∷ l) z → Cut k x z a l
cut k x z a l (res_more {y = y} {e = e} h r) = record { event = e; term = y; is = refl; after = h; left = r }

pub stopped : (k : NetPermits) (x z : Tree) → IsResidual k x [] z → x ≡ z
stopped k x z res_none = refl

more_at : (k : NetPermits) (x y z : Tree) (a : ℕ) (l : List ℕ) (e : TermEvent) → e.label ≡ a → IsAfter k x e y → IsResidual k y l z → IsResidual k x (a ∷ l) z
more_at k x y z a l e q h r = subst (λ (b : ℕ). IsResidual k x (b ∷ l) z) q (res_more h r)

pub one_more : (k : NetPermits) (x y z : Tree) (l : List ℕ) (a : ℕ) (e : TermEvent) → e.label ≡ a → IsResidual k x l y → IsAfter k y e z → IsResidual k x (l ++ a ∷ []) z
one_more k x y z [] a e q r h = more_at k x z z a [] e q (subst (λ (t : Tree). IsAfter k t e z) (sym (stopped k x y r)) h) res_none
one_more k x y z (b ∷ l) a e q r h = let c = cut k x y b l r in more_at k x c.term z b (l ++ a ∷ []) c.event c.is c.after (one_more k c.term y z l a e q c.left h)

pub record Last (k : NetPermits) (x z : Tree) (l : List ℕ) (a : ℕ) : Type 0 where
  pub term : Tree
  pub left : IsResidual k x l term
  pub event : TermEvent
  pub is : event.label ≡ a
  pub after : IsAfter k term event z

pub last_one : (k : NetPermits) (x z : Tree) (l : List ℕ) (a : ℕ) → IsResidual k x (l ++ a ∷ []) z → Last k x z l a
last_one k x z [] a r = let c = cut k x z a [] r in record { term = x; left = res_none; event = c.event; is = c.is; after = subst (λ (t : Tree). IsAfter k x c.event t) (stopped k c.term z c.left) c.after }
last_one k x z (b ∷ l) a r =
    let c = cut k x z b (l ++ a ∷ []) r in
    let i = last_one k c.term z l a c.left in
    record { term = i.term; left = more_at k x c.term i.term b l c.event c.is c.after i.left; event = i.event; is = i.is; after = i.after }

-- numbers of labels

numbers_more : (table l : List Label) (ns : List ℕ) (a : Label) (n : ℕ) → AreNumbers table l ns → label_number table a ≡ Some n → AreNumbers table (l ++ a ∷ []) (ns ++ n ∷ [])
numbers_more table [] [] a n h q = (q, tt)
numbers_more table [] (m ∷ ns) a n h q = absurd h
numbers_more table (b ∷ l) [] a n h q = absurd h
numbers_more table (b ∷ l) (m ∷ ns) a n h q = (h.0, numbers_more table l ns a n h.1 q)

record LastNumber (table l : List Label) (a : Label) (ns : List ℕ) : Type 0 where
  pub prefix : List ℕ
  pub number : ℕ
  pub are : ns ≡ prefix ++ number ∷ []
  pub numbers : AreNumbers table l prefix
  pub is : label_number table a ≡ Some number

last_number : (table l : List Label) (a : Label) (ns : List ℕ) → AreNumbers table (l ++ a ∷ []) ns → LastNumber table l a ns
last_number table [] a [] h = absurd h
last_number table [] a (n ∷ []) h = record { prefix = []; number = n; are = refl; numbers = tt; is = h.0 }
last_number table [] a (n ∷ (m ∷ ns)) h = absurd h.1
last_number table (b ∷ l) a [] h = absurd h
last_number table (b ∷ l) a (n ∷ ns) h = let i = last_number table l a ns h.1 in record { prefix = n ∷ i.prefix; number = i.number; are = ap (λ (ms : List ℕ). n ∷ ms) i.are; numbers = (h.0, i.numbers); is = i.is }

-- by labels

pub left_more : (v : NetsValue) (x y z : Tree) (l : List Label) (a : Label) → IsLeft v x l y → IsSuccessor v a y z → IsLeft v x (l ++ a ∷ []) z
left_more v x y z l a h s = record {
  numbers = h.numbers ++ s.event.label ∷ [];
  are = numbers_more v.labels l h.numbers a s.event.label h.are s.labelled;
  left = one_more (permits_of v.tables) x y z h.numbers s.event.label s.event refl h.left s.after;
}

pub record LastLeft (v : NetsValue) (x z : Tree) (l : List Label) (a : Label) : Type 0 where
  pub term : Tree
  pub left : IsLeft v x l term
  pub after : IsSuccessor v a term z

pub left_last : (v : NetsValue) (x z : Tree) (l : List Label) (a : Label) → IsLeft v x (l ++ a ∷ []) z → LastLeft v x z l a
left_last v x z l a h =
    let n = last_number v.labels l a h.numbers h.are in
    let r = last_one (permits_of v.tables) x z n.prefix n.number (subst (λ (ns : List ℕ). IsResidual (permits_of v.tables) x ns z) n.are h.left) in
    record {
      term = r.term;
      left = record { numbers = n.prefix; are = n.numbers; left = r.left };
      after = record { event = r.event; labelled = n.is ∙ ap Some (sym r.is); after = r.after };
    }

no_numbers : (table : List Label) (ns : List ℕ) → AreNumbers table [] ns → ns ≡ []
no_numbers table [] h = refl
no_numbers table (n ∷ ns) h = absurd h

pub left_start : (v : NetsValue) (x y : Tree) → IsLeft v x [] y → x ≡ y
left_start v x y h = stopped (permits_of v.tables) x y (subst (λ (ns : List ℕ). IsResidual (permits_of v.tables) x ns y) (no_numbers v.labels h.numbers h.are) h.left)

pub left_itself : (v : NetsValue) (x y : Tree) → x ≡ y → IsLeft v x [] y
left_itself v x y e = subst (IsLeft v x []) e (record { numbers = []; are = tt; left = res_none })

-- labels have one list of numbers
pub numbers_are : (table l : List Label) (ns ms : List ℕ) → AreNumbers table l ns → AreNumbers table l ms → ns ≡ ms
numbers_are table [] [] [] h g = refl
numbers_are table [] [] (m ∷ ms) h g = absurd g
numbers_are table [] (n ∷ ns) ms h g = absurd h
numbers_are table (a ∷ l) [] ms h g = absurd h
numbers_are table (a ∷ l) (n ∷ ns) [] h g = absurd g
numbers_are table (a ∷ l) (n ∷ ns) (m ∷ ms) h g = let q : n ≡ m = some_is n m (sym h.0 ∙ g.0) in let r = numbers_are table l ns ms h.1 g.1 in λ i. q i ∷ r i
  where
    some_is : (n m : ℕ) → Some n ≡ Some m → n ≡ m
    some_is n m e = cc
