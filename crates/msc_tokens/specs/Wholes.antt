-- Tokens that end within the bytes at hand.
use Rattle.std.specs.Prelude.{◌≡◌, ◌+◌, ℕ, suc, List, [], ◌∷◌, ◌++◌, length, fold, if◌then◌else◌}
use Rattle.msc_base.specs.declared.place.Place.{Place}
use Rattle.msc_base.specs.Names.{is_word_byte}
use Rattle.msc_tokens.specs.declared.token.TokenKind.{TokenKind}
use Rattle.msc_tokens.specs.declared.mode.Mode.TheVariants as mode
use Rattle.msc_tokens.specs.Machine.{State, step}

-- how many bytes of a word the bytes begin with
abbrev pub word_length : List ℕ → ℕ
word_length [] = 0
word_length (b ∷ bs) = if is_word_byte b then suc (word_length bs) else 0

-- the place behind so many bytes of one line
abbrev pub along : Place → ℕ → Place
along p n = record { byte = p.byte + n; line = p.line; column = p.column + n }

-- behind a whole token, which begins where the machine stands
abbrev pub behind_token : TokenKind → State → List ℕ → State
behind_token k s token = record { mode = mode.Between; start = s.place; text = []; place = along s.place (length token); tokens = s.tokens ++ (record { kind = k; bytes = token; place = s.place }) ∷ [] }

-- before those bytes the token is whole: where nothing is open, a machine that takes it byte by byte stands behind it
abbrev pub IsWhole : TokenKind → List ℕ → List ℕ → Type 0
IsWhole k token behind = (s : State) → s.mode ≡ mode.Between → fold step s (token ++ behind) ≡ fold step (behind_token k s token) behind
