-- What a result is: it reads as the tree of the edit; append and object build give readable records of readable ones, sound ones
-- of sound ones, and the value that document 01 names.
use Prim.Native.Nat.{ℕ, suc, ◌≤◌}
use native.Mathlib.Omega.{arith}
use mathlib.Core.Path.{◌≡◌, refl, ap, sym, ◌∙◌}
use mathlib.Core.Bool.{Bool, true, false, ◌&&◌}
use mathlib.Core.List.{List, [], ◌∷◌}
use lib.Dec.{T, leb, leb→le, eqb→eq}
use lib.ListN.{length}
use Rattle.layout.specs.Bytes.{Bytes, Octets}
use Rattle.layout.specs.Answer.{Answer, gives, refused, ◌>>=◌, require}
use Rattle.layout.specs.Text.{utf8}
use Rattle.layout.specs.Tree.{Tree, null, boolean, number, string, extension, array, object, Items, none, item, names, pair}
use Rattle.layout.specs.Encode.{encode}
use Rattle.layout.specs.Read.{read}
use Rattle.layout.specs.Limits.{Valid, ValidItems, ValidMembers, depth, record_length}
use Rattle.layout.specs.Sound.{Sound, SoundItems, SoundMembers}
use Rattle.layout.specs.Value.{Same}
use Rattle.layout.specs.Ended.{result}
use Rattle.layout.specs.declared.refusal.Refusal.TheVariants.{Result}
use Rattle.layout.proofs.Answers.{from_bind, from_require, gives_inj, refused_gives}
use Rattle.layout.proofs.Decoding.{read_sound, names_pair}
use Rattle.layout.proofs.Encoding.{read_encode}
use Rattle.layout.proofs.Readables.{length_encode}
use Rattle.layout.proofs.Questions.{and_apart}
use Rattle.builders.specs.Order.{in_order, distinct}
use Rattle.layout.specs.Pipeline.{within, written, found, on_record}
use Rattle.layout.proofs.Pipelines.{written_result, found_written}
use Rattle.builders.specs.Build.{items_of, text_of, texts_of, count, join, append, build, on_two}
use Rattle.builders.proofs.InOrders.{in_order_rising, in_order_valid, in_order_sound, in_order_same}
use Rattle.builders.proofs.Builds.{count_item_parts}
use Rattle.std.specs.Prelude.{Some}

-- An edit that gives a valid tree of valid trees.
abbrev pub Keeps : (Tree → Tree → Answer Tree) → Type 0
Keeps edit = (t u v : Tree) → Valid t → Valid u → edit t u ≡ gives v → Valid v

-- A result of two records: the trees that they read as, and the tree that the result reads as.
pub record Made (edit : Tree → Tree → Answer Tree) (l r b : Bytes) (room : ℕ) : Type 0 where
  pub left : Tree
  pub right : Tree
  pub tree : Tree
  pub left_reads : read l ≡ gives left
  pub right_reads : read r ≡ gives right
  pub edited : edit left right ≡ gives tree
  pub bytes : b ≡ encode tree
  pub reads : read b ≡ gives tree
  pub fits : length b ≤ room

pub on_two_is : (edit : Tree → Tree → Answer Tree) (l r : Bytes) (room : ℕ)
    → on_two edit l r room ≡ written room (read l >>= λ t. read r >>= λ u. edit t u >>= λ v. within v)
unfolding on_two on_record ◌>>=◌
on_two_is edit l r room = by_reads (read l) (read r)
  where
    by_edit : (m : Answer Tree) → found room (m >>= λ v. within v >>= λ w. gives (Some w)) ≡ written room (m >>= λ v. within v)
    by_edit (gives v) = found_written room (within v)
    by_edit (refused x) = refl

    by_reads : (a b : Answer Tree)
        → found room (a >>= λ t. b >>= λ u. edit t u >>= λ v. within v >>= λ w. gives (Some w))
        ≡ written room (a >>= λ t. b >>= λ u. edit t u >>= λ v. within v)
    by_reads (refused x) b = refl
    by_reads (gives t) (refused x) = refl
    by_reads (gives t) (gives u) = by_edit (edit t u)

pub within_is : (v : Tree) → within v ≡ (require (leb (record_length v) 65536 && leb (depth v) 64) Result >>= λ _. gives v)
unfolding within
within_is v = refl

pub is_true : (b : Bool) → T b → b ≡ true
is_true true h = refl
is_true false h = absurd h

pub result_made : (edit : Tree → Tree → Answer Tree) → Keeps edit → (l r b : Bytes) (room : ℕ) → Octets l → Octets r
    → on_two edit l r room ≡ result b → Made edit l r b room
result_made edit keeps l r b room ol or e =
    let w = written_result room _ b (sym (on_two_is edit l r room) ∙ e) in
    from_bind w.1 λ t ht e₁. from_bind e₁ λ u hu e₂. from_bind e₂ λ v hv e₃.
    from_require _ _ _ (sym (within_is v) ∙ e₃) λ test e₄.
    let same : v ≡ w.0 = gives_inj e₄ in
    let limits = and_apart (leb (record_length v) 65536) (leb (depth v) 64) test in
    let valid : Valid v = keeps t u v (read_sound l t ol ht).0.valid (read_sound r u or hu).0.valid hv in
    let size : length (encode v) ≤ 65536 = omega (arith, length_encode v, leb→le (record_length v) 65536 limits.0) in
    let b_is : b ≡ encode v = w.2 ∙ ap encode (sym same) in
    record {
      left = t;
      right = u;
      tree = v;
      left_reads = ht;
      right_reads = hu;
      edited = hv;
      bytes = b_is;
      reads = ap read b_is ∙ read_encode v valid (leb→le (depth v) 64 limits.1) size;
      fits = w.3;
    }

-- Append.
pub join_valid : (ts us : Items) → ValidItems ts → ValidItems us → ValidItems (join ts us)
join_valid none us v w = w
join_valid (item t ts) us v w = (v.0, join_valid ts us v.1 w)

pub join_sound : (ts us : Items) → SoundItems ts → SoundItems us → SoundItems (join ts us)
join_sound none us s r = r
join_sound (item t ts) us s r = (s.0, join_sound ts us s.1 r)

items_array : (t : Tree) (ts : Items) → items_of t ≡ gives ts → t ≡ array ts
items_array null ts e = refused_gives e
items_array (boolean x) ts e = refused_gives e
items_array (number b) ts e = refused_gives e
items_array (string b) ts e = refused_gives e
items_array (extension b) ts e = refused_gives e
items_array (array us) ts e = ap array (gives_inj e)
items_array (object ms) ts e = refused_gives e

-- The array's items, then the other's tree as one more.
pub append_items : (t u v : Tree) → append t u ≡ gives v → (ts : Items) × (t ≡ array ts) × (v ≡ array (join ts (item u none)))
unfolding append
append_items t u v e = from_bind e λ ts ht e₁. (ts, items_array t ts ht, sym (gives_inj e₁))

pub append_keeps : Keeps append
append_keeps t u v vt vu e =
    let w = append_items t u v e in
    let vs : ValidItems w.0 = rw w.1 at vt in
    rw w.2 (join_valid w.0 (item u none) vs (vu, tt))

pub append_sound : (t u v : Tree) → Sound t → Sound u → append t u ≡ gives v → Sound v
append_sound t u v st su e =
    let w = append_items t u v e in
    let ss : SoundItems w.0 = rw w.1 at st in
    rw w.2 (join_sound w.0 (item u none) ss (su, tt))

-- Object build.
pub record Built (t u v : Tree) : Type 0 where
  pub items : Items
  pub values : Items
  pub texts : List Bytes
  pub left : t ≡ array items
  pub right : u ≡ array values
  pub strings : texts_of items ≡ gives texts
  pub apart : distinct texts ≡ true
  pub as_many : count items ≡ count values
  pub is : v ≡ object (in_order (pair texts values))

pub build_is : (t u v : Tree) → build t u ≡ gives v → Built t u v
unfolding build
build_is t u v e =
    from_bind e λ ts ht e₁. from_bind e₁ λ us hu e₂. from_bind e₂ λ ns hn e₃. from_require _ _ _ e₃ λ c e₄. from_require _ _ _ e₄ λ d e₅.
    record {
      items = ts;
      values = us;
      texts = ns;
      left = items_array t ts ht;
      right = items_array u us hu;
      strings = hn;
      apart = is_true (distinct ns) d;
      as_many = eqb→eq (count ts) (count us) c;
      is = sym (gives_inj e₅);
    }

name_valid : (t : Tree) (n : Bytes) → text_of t ≡ gives n → Valid t → T (utf8 n)
name_valid null n e v = refused_gives e
name_valid (boolean x) n e v = refused_gives e
name_valid (number b) n e v = refused_gives e
name_valid (string b) n e v = rw (← gives_inj {x = b} e) v
name_valid (extension b) n e v = refused_gives e
name_valid (array ts) n e v = refused_gives e
name_valid (object ms) n e v = refused_gives e

pair_valid : (ts us : Items) (ns : List Bytes) → texts_of ts ≡ gives ns → ValidItems ts → ValidItems us
    → ValidMembers (pair ns us)
pair_valid none us ns e v w = rw (← gives_inj {x = []} e) tt
pair_valid (item t ts) none ns e v w = from_bind e λ n hn e₁. from_bind e₁ λ ms hm e₂. rw (← gives_inj {x = n ∷ ms} e₂) tt
pair_valid (item t ts) (item u us) ns e v w =
    from_bind e λ n hn e₁. from_bind e₁ λ ms hm e₂.
    rw (← gives_inj {x = n ∷ ms} e₂) (name_valid t n hn v.0, w.0, pair_valid ts us ms hm v.1 w.1)

pair_sound : (ns : List Bytes) (us : Items) → SoundItems us → SoundMembers (pair ns us)
pair_sound [] us s = tt
pair_sound (n ∷ ns) none s = tt
pair_sound (n ∷ ns) (item u us) s = (s.0, pair_sound ns us s.1)

pub count_texts : (ts : Items) (ns : List Bytes) → texts_of ts ≡ gives ns → length ns ≡ count ts
count_texts none ns e = rw (← gives_inj {x = []} e)
count_texts (item t ts) ns e = from_bind e λ n hn e₁. from_bind e₁ λ ms hm e₂. rw (← gives_inj {x = n ∷ ms} e₂) (ap suc (count_texts ts ms hm))

pub build_keeps : Keeps build
build_keeps t u v vt vu e =
    let b = build_is t u v e in
    let vs : ValidItems b.items = rw b.left at vt in
    let ws : ValidItems b.values = rw b.right at vu in
    rw b.is (in_order_valid (pair b.texts b.values) (pair_valid b.items b.values b.texts b.strings vs ws))

-- Names rise in the new object, whatever they did before: only the values must be sound.
pub build_sound : (t u v : Tree) → Sound u → build t u ≡ gives v → Sound v
build_sound t u v su e =
    let b = build_is t u v e in
    let ss : SoundItems b.values = rw b.right at su in
    rw b.is (in_order_rising (pair b.texts b.values), in_order_sound (pair b.texts b.values) (pair_sound b.texts b.values ss))

-- "the first array's strings as names, in turn, with the second's values", in no order.
pub build_value : (t u v : Tree) → (e : build t u ≡ gives v)
    → Same (object (pair (build_is t u v e).texts (build_is t u v e).values)) v
build_value t u v e =
    let b = build_is t u v e in
    let d : distinct (names (pair b.texts b.values)) ≡ true = rw (names_paired b.items b.values b.texts b.strings b.as_many) b.apart in
    (in_order (pair b.texts b.values), b.is, in_order_same (pair b.texts b.values) d)
  where
    names_paired : (ts us : Items) (ns : List Bytes) → texts_of ts ≡ gives ns → count ts ≡ count us → names (pair ns us) ≡ ns
    names_paired ts us ns s c = names_pair ns us (count_texts ts ns s ∙ c ∙ count_item_parts us)
