-- Facts about sets of classes and about two ways to cut one list.
use Rattle.std.proofs.Common.{◌≡◌, ◌∙◌, ◌++◌, ◌||◌, ◌&&◌, Bool, true, false, not, List, [], ◌∷◌, refl, sym, ap, inl, inr, subst}
use Rattle.std.specs.List.{list_any, list_all}
use Rattle.std.proofs.lemmas.Bool.{or_cases}
use Rattle.msc_tokens.specs.declared.token.Token.{Token}
use Rattle.token_grammar.specs.Classes.{Class, fits, differ, covers}
use Rattle.token_grammar.specs.Languages.{Set, among, apart, within, starts}
use Rattle.token_grammar.proofs.Classes.{classes_differ, class_covers}

-- the list doesn't start with a token of the set
pub record NotStart (s : Set) (u : List Token) : Type 0 where
  pub not_start : starts s u ≡ false

both_false : (a b : Bool) → (a || b) ≡ false → (a ≡ false) × (b ≡ false)
both_false true b h = cc
both_false false b h = (refl, h)

or_assoc : (a b c : Bool) → ((a || b) || c) ≡ (a || (b || c))
or_assoc true b c = refl
or_assoc false b c = refl

pub among-append : (s t : Set) (c : Token) → among (s ++ t) c ≡ (among s c || among t c)
among-append [] t c = refl
among-append (k ∷ s) t c = ap (λ b. fits k c.bytes || b) (among-append s t c) ∙ sym (or_assoc (fits k c.bytes) (among s c) (among t c))

pub not_start_both : (s t : Set) (u : List Token) → NotStart (s ++ t) u → NotStart s u × NotStart t u
not_start_both s t [] h = (record { not_start = refl }, record { not_start = refl })
not_start_both s t (x ∷ u) h =
    let e = both_false (among s x) (among t x) (sym (among-append s t x) ∙ h.not_start) in
    (record { not_start = e.0 }, record { not_start = e.1 })

pub among_left : (s t : Set) (c : Token) → among s c ≡ true → among (s ++ t) c ≡ true
among_left s t c h = rw (among-append s t c, h) refl

or_true : (a : Bool) → (a || true) ≡ true
or_true true = refl
or_true false = refl

pub among_right : (s t : Set) (c : Token) → among t c ≡ true → among (s ++ t) c ≡ true
among_right s t c h = rw (among-append s t c, h) (or_true (among s c))

pub starts_left : (s t : Set) (x : List Token) → starts s x ≡ true → starts (s ++ t) x ≡ true
starts_left s t [] h = h
starts_left s t (c ∷ x) h = among_left s t c h

pub starts_right : (s t : Set) (x : List Token) → starts t x ≡ true → starts (s ++ t) x ≡ true
starts_right s t [] h = h
starts_right s t (c ∷ x) h = among_right s t c h

and_true : (a b : Bool) → (a && b) ≡ true → (a ≡ true) × (b ≡ true)
and_true true b e = (refl, e)
and_true false b e = cc

not_true : (a : Bool) → not a ≡ true → a ≡ false
not_true true e = cc
not_true false e = refl

-- a token of one set is not of the other
differ_all : (k : Class) (t : Set) (c : Token) → list_all (λ j. differ k j) t ≡ true → fits k c.bytes ≡ true → among t c ≡ false
differ_all k [] c h m = refl
differ_all k (j ∷ t) c h m =
    let e = and_true (differ k j) (list_all (λ i. differ k i) t) h in
    let here : fits j c.bytes ≡ false = classes_differ k j c.bytes e.0 m in
    rw here (differ_all k t c e.1 m)

pub apart_among : (s t : Set) (c : Token) → apart s t ≡ true → among s c ≡ true → among t c ≡ false
apart_among [] t c h m = cc
apart_among (k ∷ s) t c h m =
    let e = and_true (list_all (λ j. differ k j) t) (apart s t) h in
    elim (or_cases (fits k c.bytes) (among s c) m) [
      | inl here ↦ differ_all k t c e.0 here
      | inr there ↦ apart_among s t c e.1 there
    ]

pub apart_start : (s t : Set) (x : List Token) → apart s t ≡ true → starts s x ≡ true → NotStart t x
apart_start s t [] h m = cc
apart_start s t (c ∷ x) h m = record { not_start = apart_among s t c h m }

pub starts-append : (s : Set) (x y : List Token) → starts s x ≡ true → starts s (x ++ y) ≡ true
starts-append s [] y h = cc
starts-append s (c ∷ x) y h = h

pub no_start : (s : Set) → NotStart s []
no_start s = record { not_start = refl }

-- behind x stands nothing of the set, where x starts with the other set or is empty
pub not_start-append : (s : Set) (x y : List Token) → NotStart s x → NotStart s y → NotStart s (x ++ y)
not_start-append s [] y h e = e
not_start-append s (c ∷ x) y h e = record { not_start = h.not_start }

pub heads : {X : Type 0} (a b : X) (x y : List X) → a ∷ x ≡ b ∷ y → (a ≡ b) × (x ≡ y)
heads a b x y e = (cc, cc)

-- two cuts of one list: one prefix is the other and more
pub data Cuts (y z w v : List Token) : Type 0 where
  longer : (k : List Token) → y ≡ w ++ k → v ≡ k ++ z → Cuts y z w v
  shorter : (c : Token) (k : List Token) → w ≡ y ++ c ∷ k → z ≡ c ∷ k ++ v → Cuts y z w v

more_cuts : (b : Token) (y z w v : List Token) → Cuts y z w v → Cuts (b ∷ y) z (b ∷ w) v
more_cuts b y z w v (longer k e f) = longer k (ap (λ l. b ∷ l) e) f
more_cuts b y z w v (shorter c k e f) = shorter c k (ap (λ l. b ∷ l) e) f

pub cuts : (y z w v : List Token) → y ++ z ≡ w ++ v → Cuts y z w v
cuts y z [] v e = longer y refl (sym e)
cuts [] z (c ∷ w) v e = shorter c w refl e
cuts (b ∷ y) z (c ∷ w) v e =
    let h = heads b c (y ++ z) (w ++ v) e in
    subst (λ (d : Token). Cuts (b ∷ y) z (d ∷ w) v) h.0 (more_cuts b y z w v (cuts y z w v h.1))

pub cancel : (x y z : List Token) → x ++ y ≡ x ++ z → y ≡ z
cancel [] y z e = e
cancel (c ∷ x) y z e = cancel x y z (heads c c (x ++ y) (x ++ z) e).1

pub none_more : (x : List Token) (c : Token) (k : List Token) → x ≡ x ++ c ∷ k → ⊥
none_more [] c k e = cc
none_more (d ∷ x) c k e = none_more x c k (heads d d x (x ++ c ∷ k) e).1

pub starts_some : (s : Set) (x : List Token) → starts s x ≡ true → x ≡ [] → ⊥
starts_some s [] h e = cc
starts_some s (c ∷ x) h e = cc

pub some_here : (y : List Token) (c : Token) (k : List Token) → [] ≡ y ++ c ∷ k → ⊥
some_here [] c k e = cc
some_here (d ∷ y) c k e = cc

pub not_start_either : (s t : Set) (u : List Token) → NotStart s u → NotStart t u → NotStart (s ++ t) u
not_start_either s t [] h k = record { not_start = refl }
not_start_either s t (c ∷ u) h k = record { not_start = among-append s t c ∙ ap (λ b. b || among t c) h.not_start ∙ k.not_start }

pub not_both : true ≡ false → ⊥
not_both q = cc

-- a list can't start in two sets that are apart
pub two_starts : (F G : Set) (x : List Token) → apart F G ≡ true → starts F x ≡ true → starts G x ≡ true → ⊥
two_starts F G x a f g = not_both (sym g ∙ (apart_start F G x a f).not_start)

pub front_empty : (x y : List Token) → x ++ y ≡ [] → x ≡ []
front_empty [] y e = refl
front_empty (c ∷ x) y e = cc

pub back_empty : (x y : List Token) → x ++ y ≡ [] → y ≡ []
back_empty [] y e = e
back_empty (c ∷ x) y e = cc

covers_one : (k : Class) (t : Set) (c : Token) → list_any (λ j. covers k j) t ≡ true → fits k c.bytes ≡ true → among t c ≡ true
covers_one k [] c h m = cc
covers_one k (j ∷ t) c h m = elim (or_cases (covers k j) (list_any (λ i. covers k i) t) h) [
  | inl here ↦ (let e : fits j c.bytes ≡ true = class_covers k j c.bytes here m in rw e refl)
  | inr there ↦ (let e : among t c ≡ true = covers_one k t c there m in rw e (or_true (fits j c.bytes)))
]

pub within_among : (s t : Set) (c : Token) → within s t ≡ true → among s c ≡ true → among t c ≡ true
within_among [] t c h m = cc
within_among (k ∷ s) t c h m =
    let e = and_true (list_any (λ j. covers k j) t) (within s t) h in
    elim (or_cases (fits k c.bytes) (among s c) m) [
      | inl here ↦ covers_one k t c e.0 here
      | inr there ↦ within_among s t c e.1 there
    ]

pub within_start : (s t : Set) (x : List Token) → within s t ≡ true → starts s x ≡ true → starts t x ≡ true
within_start s t [] h m = cc
within_start s t (c ∷ x) h m = within_among s t c h m

pub apart_none : (s : Set) → apart s [] ≡ true
apart_none [] = refl
apart_none (k ∷ s) = apart_none s
