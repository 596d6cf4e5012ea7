-- The rules by which a grammar's readers are proved, one for each way to put grammars together.
use Rattle.std.proofs.Common.{ℕ, ◌≡◌, ◌++◌, ◌⊎◌, true, List, [], ◌∷◌, refl, sym, inl, inr, suc, Some, None, Ok, Err, subst}
use Rattle.msc_tokens.specs.declared.token.Token.{Token}
use Rattle.token_grammar.specs.Classes.{token_of}
use Rattle.token_grammar.specs.Languages.{Set, among, apart, refused, deep, Read, word_at, seq_at, either_at, map_at, chain_at, until_at, opens_at, tail_at, tail_ends}
use Rattle.token_grammar.specs.Grammars.{Grammar, word, seq, or, read_as, chain, until, maybe, tail}
use Rattle.token_grammar.proofs.Base.{Laws, Known, Meant, Viable, word_laws, word_known, word_meant}
use Rattle.token_grammar.proofs.Seqs.{seq_laws, seq_known, seq_meant}
use Rattle.token_grammar.proofs.Maps.{map_laws, map_known, map_meant}
use Rattle.token_grammar.proofs.Eithers.{either_laws, either_known, either_meant}
use Rattle.token_grammar.proofs.Levels.{Opened, reads_of, brink_of, closed_laws, opens_laws, shut_known, opens_shut, opens_known, opens_meant}
use Rattle.token_grammar.proofs.Tails.{tail_laws, tail_known, tail_meant}
use Rattle.token_grammar.proofs.Untils.{until_laws, until_known, until_meant}
use Rattle.token_grammar.proofs.Chains.{ends_of, chain_laws, chain_known, chain_meant}

-- first induction: at n levels against every number of levels, at most one reading
pub record Law {A : Type 0} (R : ℕ → Grammar A) (n : ℕ) (F : Set) (C : A → Set) : Type 0 where
  pub laws : Laws (reads_of R) F C n

-- second induction: the reader at n levels is exact
module _ {A : Type 0} (R : ℕ → Grammar A) where
  pub record Rule (n : ℕ) (F : Set) (C : A → Set) (p : List Token → Read A) : Type 0 where
    pub known : Known (reads_of R) (brink_of R) F C n
    pub meant : (ts : List Token) → Meant (reads_of R) (brink_of R) n F C ts (p ts)

  -- something without levels
  abbrev pub Word : Type 0
  Word = Viable (reads_of R) 0 []

pub word_law : (s : Set) (n : ℕ) → Law (λ m. word s) n s (λ t. [])
word_law s n = record { laws = word_laws s n }

pub word_rule : (s : Set) (c : List ℕ) → among s (token_of c) ≡ true → (n : ℕ) → Rule (λ m. word s) n s (λ t. []) (word_at s)
word_rule s c e n = record { known = word_known s c e n; meant = word_meant s n }

module _ {A B : Type 0} {R : ℕ → Grammar A} {S : ℕ → Grammar B} {F G : Set} {C : A → Set} {D : B → Set} {n : ℕ} where
  pub seq_law : Law R n F C → Law S n G D → ((a : A) → apart G (C a) ≡ true) → Law (λ m. seq (R m) (S m)) n F (λ x. D x.1)
  seq_law r s free = record { laws = seq_laws (reads_of R) (reads_of S) F C G D n r.laws s.laws free }

  pub seq_rule : {p : List Token → Read A} {q : List Token → Read B} → Rule R n F C p → Rule S n G D q → ((a : A) → apart G (C a) ≡ true)
      → Rule (λ m. seq (R m) (S m)) n F (λ x. D x.1) (seq_at p q)
  seq_rule {p = p} {q = q} r s free = record {
    known = seq_known (reads_of R) (brink_of R) (reads_of S) (brink_of S) F C G D n r.known s.known free;
    meant = seq_meant (reads_of R) (brink_of R) (reads_of S) (brink_of S) F C G D n r.known s.known free p q r.meant s.meant;
  }

  pub tail_law : Law R n F C → Law S n G D → ((a : A) → apart G (C a) ≡ true) → Law (λ m. tail (R m) (S m)) n F (tail_ends C G D)
  tail_law r s free = record { laws = tail_laws (reads_of R) (reads_of S) F C G D n r.laws s.laws free }

  pub tail_rule : {p : List Token → Read A} {q : List Token → Read B} → Rule R n F C p → Rule S n G D q → ((a : A) → apart G (C a) ≡ true)
      → Rule (λ m. tail (R m) (S m)) n F (tail_ends C G D) (tail_at G p q)
  tail_rule {p = p} {q = q} r s free = record {
    known = tail_known (reads_of R) (brink_of R) (reads_of S) (brink_of S) F C G D n r.known s.known free;
    meant = tail_meant (reads_of R) (brink_of R) (reads_of S) (brink_of S) F C G D n r.known s.known free p q r.meant s.meant;
  }

  pub until_law : Law R n F C → Law S n G D → ((a : A) → apart F (C a) ≡ true) → apart G F ≡ true → ((a : A) → apart G (C a) ≡ true)
      → Law (λ m. until (R m) (S m)) n (F ++ G) (λ x. D x.1)
  until_law r s free other behind = record { laws = until_laws (reads_of R) (reads_of S) F C G D n r.laws s.laws free other behind }

  pub until_rule : {p : List Token → Read A} {q : List Token → Read B} → Rule R n F C p → Rule S n G D q
      → ((a : A) → apart F (C a) ≡ true) → apart G F ≡ true → ((a : A) → apart G (C a) ≡ true)
      → Rule (λ m. until (R m) (S m)) n (F ++ G) (λ x. D x.1) (until_at F p q)
  until_rule {p = p} {q = q} r s free other behind = record {
    known = until_known (reads_of R) (brink_of R) (reads_of S) (brink_of S) F C G D n r.known s.known free other behind;
    meant = until_meant (reads_of R) (brink_of R) (reads_of S) (brink_of S) F C G D n r.known s.known free other behind p q r.meant s.meant;
  }

  pub chain_law : Law R n F C → Law S n G D → ((b : B) → apart G (D b) ≡ true) → ((a : A) → apart G (C a) ≡ true) → Law (λ m. chain (R m) (S m)) n F (ends_of C G D)
  chain_law r s free behind = record { laws = chain_laws (reads_of R) (reads_of S) F C G D n r.laws s.laws free behind }

  pub chain_rule : {p : List Token → Read A} {q : List Token → Read B} → Rule R n F C p → Rule S n G D q → ((b : B) → apart G (D b) ≡ true) → ((a : A) → apart G (C a) ≡ true)
      → Rule (λ m. chain (R m) (S m)) n F (ends_of C G D) (chain_at G p q)
  chain_rule {p = p} {q = q} r s free behind = record {
    known = chain_known (reads_of R) (brink_of R) (reads_of S) (brink_of S) F C G D n r.known s.known free behind;
    meant = chain_meant (reads_of R) (brink_of R) (reads_of S) (brink_of S) F C G D n r.known s.known free behind p q r.meant s.meant;
  }

module _ {A : Type 0} {R S : ℕ → Grammar A} {F G : Set} {C : A → Set} {n : ℕ} where
  pub or_law : Law R n F C → Law S n G C → apart F G ≡ true → Law (λ m. or (R m) (S m)) n (F ++ G) C
  or_law r s free = record { laws = either_laws (reads_of R) (reads_of S) F G C n r.laws s.laws free }

  pub or_rule : {p q : List Token → Read A} → Rule R n F C p → Rule S n G C q → apart F G ≡ true → Rule (λ m. or (R m) (S m)) n (F ++ G) C (either_at F p q)
  or_rule {p = p} {q = q} r s free = record {
    known = either_known (reads_of R) (brink_of R) (reads_of S) (brink_of S) F G C n r.known s.known free;
    meant = either_meant (reads_of R) (brink_of R) (reads_of S) (brink_of S) F G C n r.known s.known free p q r.meant s.meant;
  }

module _ {A B : Type 0} {R : ℕ → Grammar A} {F : Set} {C : A → Set} {n : ℕ} (f : A → B) (D : B → Set) where
  pub as_law : Law R n F C → ((a : A) → D (f a) ≡ C a) → Law (λ m. read_as f (R m)) n F D
  as_law r ends = record { laws = map_laws f (reads_of R) F C D n r.laws ends }

  pub as_rule : {p : List Token → Read A} → Rule R n F C p → ((a : A) → D (f a) ≡ C a) → Rule (λ m. read_as f (R m)) n F D (map_at f p)
  as_rule {p = p} r ends = record {
    known = map_known f (reads_of R) (brink_of R) F C D n r.known ends;
    meant = map_meant f (reads_of R) (brink_of R) F C D n r.known ends p r.meant;
  }

module _ {A B : Type 0} {R : ℕ → Grammar A} {S : ℕ → Grammar B} {F G : Set} {C : A → Set} {D : B → Set} {n : ℕ} where
  pub maybe_law : Law R n F C → Law S n G D → ((a : A) → apart G (C a) ≡ true) → apart F G ≡ true → Law (λ m. maybe (R m) (S m)) n (F ++ G) (λ x. D x.1)
  maybe_law r s free other = or_law (as_law (λ p. (Some p.0, p.1)) (λ x. D x.1) (seq_law r s free) (λ a. refl)) (as_law (λ b. (None, b)) (λ x. D x.1) s (λ a. refl)) other

  pub maybe_rule : {p : List Token → Read A} {q : List Token → Read B} → Rule R n F C p → Rule S n G D q → ((a : A) → apart G (C a) ≡ true) → apart F G ≡ true
      → Rule (λ m. maybe (R m) (S m)) n (F ++ G) (λ x. D x.1) (either_at F (map_at (λ x. (Some x.0, x.1)) (seq_at p q)) (map_at (λ b. (None, b)) q))
  maybe_rule r s free other = or_rule (as_rule (λ p. (Some p.0, p.1)) (λ x. D x.1) (seq_rule r s free) (λ a. refl)) (as_rule (λ b. (None, b)) (λ x. D x.1) s (λ a. refl)) other

pub shut_law : {A : Type 0} {R : ℕ → Grammar A} {C : A → Set} (s : Set) → Law (Opened s R) 0 s C
shut_law {R = R} {C = C} s = record { laws = closed_laws s R C }

module _ {A : Type 0} {R : ℕ → Grammar A} {F : Set} {C : A → Set} (s : Set) where
  pub inner_law : {n : ℕ} → Law R n F C → Law (Opened s R) (suc n) s C
  inner_law {n = n} r = record { laws = opens_laws s R C F n r.laws }

  pub shut_rule : (c : List ℕ) → among s (token_of c) ≡ true → ((m : ℕ) → Law R m F C) → Word R → Rule (Opened s R) 0 s C (opens_at s None)
  shut_rule c e laws some = record { known = shut_known s R C F (λ m. (laws m).laws) some c e; meant = opens_shut s R C }

  pub inner_rule : (c : List ℕ) → among s (token_of c) ≡ true → {n : ℕ} {p : List Token → Read A} → Rule R n F C p → Rule (Opened s R) (suc n) s C (opens_at s (Some p))
  inner_rule c e {n = n} {p = p} r = record { known = opens_known s R C F n r.known c e; meant = opens_meant s R C F n r.known p r.meant }

-- ---- another grammar that says the same

module _ {A : Type 0} (R S : ℕ → Grammar A) (F : Set) (C : A → Set) (n : ℕ)
    (to : (m : ℕ) (x : List Token) (a : A) → (R m).reads x a → (S m).reads x a) (from : (m : ℕ) (x : List Token) (a : A) → (S m).reads x a → (R m).reads x a) where
  pub same_law : Law R n F C → Law S n F C
  same_law law = let r = law.laws in record {
    laws = record {
      up = λ x a h. to (suc n) x a (r.up x a (from n x a h));
      unique = λ m x y u v a b h k. r.unique m x y u v a b (from n x a h) (from m y b k);
      begins = λ m x a h. r.begins m x a (from m x a h);
    };
  }

module _ {A : Type 0} (R S : ℕ → Grammar A) (F : Set) (C : A → Set) (n : ℕ)
    (to : (m : ℕ) (x : List Token) (a : A) → (R m).reads x a → (S m).reads x a) (from : (m : ℕ) (x : List Token) (a : A) → (S m).reads x a → (R m).reads x a)
    (to_brink : (p : List Token) → (R n).brink p → (S n).brink p) (from_brink : (p : List Token) → (S n).brink p → (R n).brink p) where
  turned : (m : ℕ) (used : List Token) → Viable (reads_of R) m used → Viable (reads_of S) m used
  turned m used v = record { more = v.more; value = v.value; holds = to m (used ++ v.more) v.value v.holds }

  same_known : Known (reads_of R) (brink_of R) F C n → Known (reads_of S) (brink_of S) F C n
  same_known r = record {
    laws = λ m. (same_law R S F C m to from (record { laws = r.laws m })).laws;
    word = turned (suc n) [] r.word;
    opened = λ p h. turned (suc n) p (r.opened p (from_brink p h));
    some = λ p h. r.some p (from_brink p h);
    proper = λ x a h p q e k. r.proper x a (from n x a h) p q e (from_brink p k);
  }

  same_step : (ts : List Token) (x : Read A) → Meant (reads_of R) (brink_of R) n F C ts x → Meant (reads_of S) (brink_of S) n F C ts x
  same_step ts (Ok x) h = record { used = h.used; cut = h.cut; holds = to n h.used x.0 h.holds; ends = h.ends }
  same_step ts (Err (refused k)) h = record {
    used = h.used;
    rest = h.rest;
    cut = h.cut;
    left = h.left;
    viable = kept h.viable;
    stops = λ m more b meets g. h.stops m more b meets (from m (h.used ++ more) b g);
    first = h.first;
    safe = λ p q e k. h.safe p q e (from_brink p k);
  }
    where
      kept : (h.used ≡ []) ⊎ Viable (reads_of R) (suc n) h.used → (h.used ≡ []) ⊎ Viable (reads_of S) (suc n) h.used
      kept (inl e) = inl e
      kept (inr v) = inr (turned (suc n) h.used v)
  same_step ts (Err (deep k)) h = record {
    used = h.used;
    token = h.token;
    rest = h.rest;
    cut = h.cut;
    left = h.left;
    brink = to_brink (h.used ++ h.token ∷ []) h.brink;
    safe = λ p q e k. h.safe p q e (from_brink p k);
  }

  pub same_rule : {p : List Token → Read A} → Rule R n F C p → Rule S n F C p
  same_rule {p = p} r = record { known = same_known r.known; meant = λ ts. same_step ts (p ts) (r.meant ts) }

-- the same grammar at each level
module _ {A : Type 0} {R S : ℕ → Grammar A} (equal : (m : ℕ) → R m ≡ S m) where
  pub equal_law : {F : Set} {C : A → Set} {n : ℕ} → Law R n F C → Law S n F C
  equal_law {F = F} {C = C} {n = n} r = same_law R S F C n (λ m x a h. subst (λ g. g.reads x a) (equal m) h) (λ m x a h. subst (λ g. g.reads x a) (sym (equal m)) h) r

  pub equal_rule : {F : Set} {C : A → Set} {n : ℕ} {p : List Token → Read A} → Rule R n F C p → Rule S n F C p
  equal_rule {F = F} {C = C} {n = n} r = same_rule R S F C n (λ m x a h. subst (λ g. g.reads x a) (equal m) h) (λ m x a h. subst (λ g. g.reads x a) (sym (equal m)) h)
      (λ p h. subst (λ g. g.brink p) (equal n) h) (λ p h. subst (λ g. g.brink p) (sym (equal n)) h) r
