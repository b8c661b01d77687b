-- One level of a record: a table of entries and their payloads is read exactly as it is written.
use Prim.Native.Nat.{ℕ, zero, suc, ◌+◌, ◌*◌, ◌/◌, ◌%◌, ◌^◌, ◌<◌, ◌≤◌}
use native.Mathlib.Omega.{arith}
use mathlib.Core.Path.{◌≡◌, refl, sym, ap, ◌∙◌}
use mathlib.Core.Bool.{Bool, true, false, not, ◌||◌}
use mathlib.Core.List.{List, [], ◌∷◌, ◌++◌, append_assoc}
use lib.Dec.{T, eqb, leb→le, eqb→eq, le→leb, eqb_refl}
use lib.ListN.{length, take, drop, length-append, length-drop, take-append-drop}
use lib.Seq.{drop_at, drop-drop, length-take-le, take-append_seam, drop-append_seam}
use borrow.Author.Tests.{le-ltb}
use Rattle.layout.specs.Bytes.{Bytes, be32, word, Octets}
use Rattle.layout.specs.Answer.{gives}
use Rattle.layout.specs.Entry.{top_of, code_of, length_of, entry_of, code, kind_of}
use Rattle.layout.specs.Encode.{Part, entry_word, entries, payloads}
use Rattle.layout.specs.Read.{Entry, entry, table, total, cut, parts}
use Rattle.layout.specs.declared.item.Kind.{Kind}
use Rattle.layout.specs.declared.item.Kind.TheVariants.{Null, String, Number, False, True, Container, Extension}
use Rattle.layout.proofs.Words.{word_be32, be32_word, drop_be32, length_be32, octets_drop}
use Rattle.layout.proofs.Entries.{known_kind, is_string, length_ok, entry_lines}
use Rattle.layout.proofs.Answers.{from_bind, from_require, gives_inj, refused_gives, to_bind, to_require}

pub eq_test : (m n : ℕ) → m ≡ n → T (eqb m n)
eq_test m n e = rw e (eqb_refl n)

-- A part that an entry can describe.
abbrev pub Fits : Part → Type 0
Fits p = T (length_ok p.kind (length p.bytes)) × (length p.bytes < 2 ^ 28)

abbrev pub AllFit : List Part → Type 0
AllFit [] = Unit {0}
AllFit (p ∷ ps) = Fits p × AllFit ps

abbrev pub kinds : List Part → List Kind
kinds [] = []
kinds (p ∷ ps) = p.kind ∷ kinds ps

-- The first `names` of these are strings.
abbrev pub Named : ℕ → List Kind → Type 0
Named zero ks = Unit {0}
Named (suc names) [] = Unit {0}
Named (suc names) (k ∷ ks) = T (is_string k) × Named names ks

pub string_kind : (k : Kind) → T (is_string k) → k ≡ String
string_kind Null h = absurd h
string_kind String h = refl
string_kind Number h = absurd h
string_kind False h = absurd h
string_kind True h = absurd h
string_kind Container h = absurd h
string_kind Extension h = absurd h

-- What is read is what is written.

known_kind_code : (c : ℕ) {k : Kind} → known_kind c ≡ gives k → c ≡ code k
unfolding kind_of
known_kind_code zero e = ap code (gives_inj e)
known_kind_code (suc zero) e = ap code (gives_inj e)
known_kind_code (suc (suc zero)) e = ap code (gives_inj e)
known_kind_code (suc (suc (suc zero))) e = ap code (gives_inj e)
known_kind_code (suc (suc (suc (suc zero)))) e = ap code (gives_inj e)
known_kind_code (suc (suc (suc (suc (suc zero))))) e = ap code (gives_inj e)
known_kind_code (suc (suc (suc (suc (suc (suc zero)))))) e = ap code (gives_inj e)
known_kind_code (suc (suc (suc (suc (suc (suc (suc n))))))) e = refused_gives (rw (le-ltb (suc (suc (suc (suc (suc (suc (suc n))))))) 7 (omega arith)) at e)

abbrev word_of : Entry → ℕ
word_of e = entry_of (code e.kind) e.len

-- An entry that `entry` gives.
abbrev Ok : Entry → Type 0
Ok e = T (length_ok e.kind e.len) × (e.len < 2 ^ 28)

pub entry_sound : (name : Bool) (w : ℕ) (e : Entry) → entry name w ≡ gives e → (w ≡ word_of e) × Ok e × T (not name || is_string e.kind)
unfolding top_of code_of length_of
entry_sound name w e h =
    from_require _ _ _ (sym (entry_lines name w) ∙ h) λ ht h₁.
    from_bind h₁ λ k hk h₂.
    from_require _ _ _ h₂ λ hn h₃.
    from_require _ _ _ h₃ λ ok h₄.
    let z : w / 2 ^ 31 ≡ 0 = eqb→eq (w / 2 ^ 31) 0 ht in
    let c : w / 2 ^ 28 % 2 ^ 3 ≡ code k = known_kind_code (w / 2 ^ 28 % 2 ^ 3) hk in
    let s : w ≡ w / 2 ^ 28 % 2 ^ 3 * 2 ^ 28 + w % 2 ^ 28 = omega arith in
    rw (← gives_inj {x = record { kind = k; len = w % 2 ^ 28 }} h₄)
    (s ∙ ap (λ x. x * 2 ^ 28 + w % 2 ^ 28) c, (ok, omega arith), hn)

abbrev AllOk : List Entry → Type 0
AllOk [] = Unit {0}
AllOk (e ∷ es) = Ok e × AllOk es

abbrev entry_kinds : List Entry → List Kind
entry_kinds [] = []
entry_kinds (e ∷ es) = e.kind ∷ entry_kinds es

abbrev table_bytes : List Entry → Bytes
table_bytes [] = []
table_bytes (e ∷ es) = be32 (word_of e) ++ table_bytes es

-- A table of `es` in front of what follows its `n` entries.
pub record Table (n : ℕ) (b : Bytes) (es : List Entry) : Type 0 where
  pub count : length es ≡ n
  pub bytes : table_bytes es ++ drop (4 * n) b ≡ b
  pub ok : AllOk es

table_more : (n : ℕ) (b : Bytes) (e : Entry) (es : List Entry) → Octets b → 4 * suc n ≤ length b → word b ≡ word_of e → Ok e →
    Table n (drop 4 b) es → Table (suc n) b (e ∷ es)
table_more n b e es o h w k r =
    let l : 4 ≤ length b = omega arith in
    let m : 4 * suc n ≡ 4 + 4 * n = omega arith in
    record {
      count = ap suc r.count;
      bytes = rw (append_assoc, m, ← drop-drop (4 * n) 4 b, r.bytes, ← w) (be32_word b o l);
      ok = (k, r.ok);
    }

table_sound : (n names : ℕ) (b : Bytes) (es : List Entry) → Octets b → 4 * n ≤ length b → table n names b ≡ gives es → Table n b es
table_sound zero names b es o h e = rw (← gives_inj {x = []} e) (record { count = refl; bytes = refl; ok = tt })
table_sound (suc n) zero b es o h e =
    from_bind e λ x hx h₁.
    from_bind h₁ λ xs hxs h₂.
    let l : 4 * n ≤ length (drop 4 b) = omega (arith, length-drop 4 b) in
    let y = entry_sound false (word b) x hx in
    rw (← gives_inj {x = x ∷ xs} h₂)
    (table_more n b x xs o h y.0 y.1 (table_sound n zero (drop 4 b) xs (octets_drop 4 b o) l hxs))
table_sound (suc n) (suc names) b es o h e =
    from_bind e λ x hx h₁.
    from_bind h₁ λ xs hxs h₂.
    let l : 4 * n ≤ length (drop 4 b) = omega (arith, length-drop 4 b) in
    let y = entry_sound true (word b) x hx in
    rw (← gives_inj {x = x ∷ xs} h₂)
    (table_more n b x xs o h y.0 y.1 (table_sound n names (drop 4 b) xs (octets_drop 4 b o) l hxs))

table_named : (n names : ℕ) (b : Bytes) (es : List Entry) → table n names b ≡ gives es → Named names (entry_kinds es)
table_named zero zero b es e = tt
table_named zero (suc names) b es e = rw (← gives_inj {x = []} e) tt
table_named (suc n) zero b es e = tt
table_named (suc n) (suc names) b es e =
    from_bind e λ x hx h₁.
    from_bind h₁ λ xs hxs h₂.
    rw (← gives_inj {x = x ∷ xs} h₂) ((entry_sound true (word b) x hx).2, table_named n names (drop 4 b) xs hxs)

pub cut_length : (es : List Entry) (b : Bytes) → length (cut es b) ≡ length es
cut_length [] b = refl
cut_length (e ∷ es) b = ap suc (cut_length es (drop e.len b))

cut_kinds : (es : List Entry) (b : Bytes) → kinds (cut es b) ≡ entry_kinds es
cut_kinds [] b = refl
cut_kinds (e ∷ es) b = ap (λ ks. e.kind ∷ ks) (cut_kinds es (drop e.len b))

module _ (e : Entry) (es : List Entry) (b : Bytes) (h : total (e ∷ es) ≡ length b) where
  left_over : total es ≡ length (drop e.len b)
  left_over = omega (arith, length-drop e.len b)

  taken : length (take e.len b) ≡ e.len
  taken = let l : e.len ≤ length b = omega arith in length-take-le e.len b l

cut_payloads : (es : List Entry) (b : Bytes) → total es ≡ length b → payloads (cut es b) ≡ b
cut_payloads [] [] h = refl
cut_payloads [] (x ∷ b) h = cc
cut_payloads (e ∷ es) b h = rw (cut_payloads es (drop e.len b) (left_over e es b h)) (take-append-drop e.len b)

cut_entries : (es : List Entry) (b : Bytes) → total es ≡ length b → entries (cut es b) ≡ table_bytes es
cut_entries [] b h = refl
cut_entries (e ∷ es) b h = rw (cut_entries es (drop e.len b) (left_over e es b h), taken e es b h)

cut_fits : (es : List Entry) (b : Bytes) → total es ≡ length b → AllOk es → AllFit (cut es b)
cut_fits [] b h k = tt
cut_fits (e ∷ es) b h k = (rw (taken e es b h) k.0, cut_fits es (drop e.len b) (left_over e es b h) k.1)

-- The names among parts that are read are strings.
pub parts_named : (n names : ℕ) (b : Bytes) (ps : List Part) → parts n names b ≡ gives ps → Named names (kinds ps)
unfolding parts
parts_named n names b ps h =
    from_require _ _ _ h λ _ h₁.
    from_bind h₁ λ es hes h₂.
    from_require _ _ _ h₂ λ _ h₃.
    rw (← gives_inj {x = cut es (drop (4 * n) b)} h₃, cut_kinds es (drop (4 * n) b)) (table_named n names b es hes)

-- Bytes that are made of these parts.
pub record Made (n names : ℕ) (b : Bytes) (ps : List Part) : Type 0 where
  pub count : length ps ≡ n
  pub bytes : entries ps ++ payloads ps ≡ b
  pub fits : AllFit ps
  pub named : Named names (kinds ps)

pub parts_sound : (n names : ℕ) (b : Bytes) (ps : List Part) → Octets b → parts n names b ≡ gives ps → Made n names b ps
unfolding parts
parts_sound n names b ps o h =
    let k : Named names (kinds ps) = parts_named n names b ps h in
    from_require _ _ _ h λ h₀ h₁.
    from_bind h₁ λ es hes h₂.
    from_require _ _ _ h₂ λ ht h₃.
    let l : 4 * n ≤ length b = leb→le (4 * n) (length b) h₀ in
    let t : total es ≡ length (drop (4 * n) b) = eqb→eq (total es) (length (drop (4 * n) b)) ht in
    let r = table_sound n names b es o l hes in
    let q : cut es (drop (4 * n) b) ≡ ps = gives_inj h₃ in
    record {
      count = rw (← q) (cut_length es (drop (4 * n) b) ∙ r.count);
      bytes = rw (← q, cut_entries es (drop (4 * n) b) t, cut_payloads es (drop (4 * n) b) t) r.bytes;
      fits = rw (← q) (cut_fits es (drop (4 * n) b) t r.ok);
      named = k;
    }

-- What is written is read.

code_kind : (k : Kind) → known_kind (code k) ≡ gives k
unfolding kind_of
code_kind Null = refl
code_kind String = refl
code_kind Number = refl
code_kind False = refl
code_kind True = refl
code_kind Container = refl
code_kind Extension = refl

pub code_small : (k : Kind) → code k < 7
code_small Null = omega arith
code_small String = omega arith
code_small Number = omega arith
code_small False = omega arith
code_small True = omega arith
code_small Container = omega arith
code_small Extension = omega arith

abbrev described : Part → Entry
described p = record { kind = p.kind; len = length p.bytes }

abbrev all_described : List Part → List Entry
all_described [] = []
all_described (p ∷ ps) = described p ∷ all_described ps

pub entry_complete : (name : Bool) (p : Part) → Fits p → T (not name || is_string p.kind) → entry name (entry_word p) ≡ gives (described p)
unfolding top_of code_of length_of
entry_complete name p f s =
    let c : code p.kind < 7 = code_small p.kind in
    let z : entry_word p / 2 ^ 31 ≡ 0 = omega (arith, f.1) in
    let q : entry_word p / 2 ^ 28 % 2 ^ 3 ≡ code p.kind = omega (arith, f.1) in
    let r : entry_word p % 2 ^ 28 ≡ length p.bytes = omega (arith, f.1) in
    entry_lines name (entry_word p)
    ∙ to_require _ _ _ _ (eq_test (entry_word p / 2 ^ 31) 0 z)
    (to_bind _ (ap known_kind q ∙ code_kind p.kind)
    (rw r (to_require _ _ _ _ s (to_require _ _ _ _ f.0 refl))))

pub entries_length : (ps : List Part) → length (entries ps) ≡ 4 * length ps
entries_length [] = refl
entries_length (p ∷ ps) =
    omega (arith, length-append (be32 (entry_word p)) (entries ps), length_be32 (entry_word p), entries_length ps)

word_entry : (p : Part) (b : Bytes) → Fits p → word (be32 (entry_word p) ++ b) ≡ entry_word p
word_entry p b f =
    let c : code p.kind < 7 = code_small p.kind in
    word_be32 (entry_word p) b (omega (arith, f.1))

table_complete : (ps : List Part) (names : ℕ) (r : Bytes) → AllFit ps → Named names (kinds ps) →
    table (length ps) names (entries ps ++ r) ≡ gives (all_described ps)
table_complete [] names r f k = refl
table_complete (p ∷ ps) zero r f k =
    rw (append_assoc)
    (to_bind _ (ap (entry false) (word_entry p (entries ps ++ r) f.0) ∙ entry_complete false p f.0 tt)
    (to_bind _ (ap (table (length ps) zero) (drop_be32 (entry_word p) (entries ps ++ r)) ∙ table_complete ps zero r f.1 tt) refl))
table_complete (p ∷ ps) (suc names) r f k =
    rw (append_assoc)
    (to_bind _ (ap (entry true) (word_entry p (entries ps ++ r) f.0) ∙ entry_complete true p f.0 k.0)
    (to_bind _ (ap (table (length ps) names) (drop_be32 (entry_word p) (entries ps ++ r)) ∙ table_complete ps names r f.1 k.1) refl))

total_of : (ps : List Part) → total (all_described ps) ≡ length (payloads ps)
total_of [] = refl
total_of (p ∷ ps) = rw (total_of ps, length-append)

cut_of : (ps : List Part) → cut (all_described ps) (payloads ps) ≡ ps
cut_of [] = refl
cut_of (p ∷ ps) = rw (take-append_seam, drop-append_seam, cut_of ps)

pub parts_complete : (n names : ℕ) (ps : List Part) → n ≡ length ps → AllFit ps → Named names (kinds ps) →
    parts n names (entries ps ++ payloads ps) ≡ gives ps
unfolding parts
parts_complete n names ps e f k =
    let l : 4 * n ≤ length (entries ps ++ payloads ps) = omega (arith, length-append (entries ps) (payloads ps), entries_length ps, e) in
    let d : drop (4 * n) (entries ps ++ payloads ps) ≡ payloads ps = drop_at (entries ps) (payloads ps) (4 * n) (rw e (entries_length ps)) in
    to_require _ _ _ _ (le→leb (4 * n) (length (entries ps ++ payloads ps)) l)
    (to_bind _ {x = all_described ps} (rw e (table_complete ps names (payloads ps) f k))
    (rw d (to_require _ _ _ _ (eq_test (total (all_described ps)) (length (payloads ps)) (total_of ps)) (ap gives (cut_of ps)))))
