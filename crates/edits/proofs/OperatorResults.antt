-- What a result of concat and of strip is: it reads as the edited tree; of sound records concat gives a sound one, and strip gives a
-- sound one of any.
use Prim.Native.Nat.{ℕ, ◌≤◌}
use native.Mathlib.Omega.{arith}
use mathlib.Core.Path.{◌≡◌, ap, sym, ◌∙◌}
use mathlib.Core.Bool.{true}
use lib.ListN.{length}
use Rattle.layout.specs.Bytes.{Bytes, Octets}
use Rattle.layout.specs.Answer.{gives}
use Rattle.layout.specs.Tree.{Tree}
use Rattle.layout.specs.Encode.{encode}
use Rattle.layout.specs.Read.{read}
use Rattle.layout.specs.Sound.{Sound}
use Rattle.layout.specs.Ended.{result}
use Rattle.layout.proofs.Answers.{from_bind, to_bind, gives_inj}
use Rattle.layout.proofs.Decoding.{read_sound}
use Rattle.layout.proofs.Encoding.{read_encode}
use Rattle.layout.proofs.Readables.{length_encode}
use Rattle.layout.specs.Pipeline.{written}
use Rattle.builders.specs.Build.{on_two}
use Rattle.layout.proofs.Pipelines.{written_result}
use Rattle.builders.proofs.Results.{Made, result_made}
use Rattle.edits.specs.Concat.{concat}
use Rattle.edits.specs.Strip.{stripped, unrepeated, strip, on_one}
use Rattle.edits.proofs.Strips.{strip_sound, strip_shrinks, strip_again, sound_unrepeated, strip_gives, strip_given}
use Rattle.edits.proofs.StripWrites.{on_one_is}
use Rattle.edits.proofs.Concats.{concat_keeps, concat_sound}

-- Bytes that read as a sound tree.
abbrev pub SoundRecord : Bytes → Type 0
SoundRecord b = (t : Tree) × (read b ≡ gives t) × Sound t

-- ---- concat

module _ (l r b : Bytes) (room : ℕ) (ol : Octets l) (or : Octets r) (e : on_two concat l r room ≡ result b) where
  pub concat_made : Made concat l r b room
  concat_made = result_made concat concat_keeps l r b room ol or e

  pub concat_made_sound : SoundRecord l → SoundRecord r → SoundRecord b
  concat_made_sound s₁ s₂ =
      let m = concat_made in
      let left : Sound m.left = rw (gives_inj (sym s₁.1 ∙ m.left_reads)) at s₁.2 in
      let right : Sound m.right = rw (gives_inj (sym s₂.1 ∙ m.right_reads)) at s₂.2 in
      (m.tree, m.reads, concat_sound m.left m.right m.tree left right m.edited)

-- ---- strip

-- What strip writes of a record in which no name is repeated.
strip_writes : (s : Bytes) (t : Tree) (room : ℕ) → read s ≡ gives t → unrepeated t ≡ true
    → on_one strip s room ≡ written room (gives (stripped t))
strip_writes s t room e u = on_one_is strip s room ∙ ap (written room) (to_bind strip e (strip_given t u))

pub record StripMade (s b : Bytes) (room : ℕ) : Type 0 where
  pub tree : Tree
  pub target_reads : read s ≡ gives tree
  pub apart : unrepeated tree ≡ true
  pub bytes : b ≡ encode (stripped tree)
  pub reads : read b ≡ gives (stripped tree)
  pub no_longer : length b ≤ length s
  pub fits : length b ≤ room

module _ (s b : Bytes) (room : ℕ) (o : Octets s) (e : on_one strip s room ≡ result b) where
  pub strip_made : StripMade s b room
  strip_made =
      let w = written_result room _ b (sym (on_one_is strip s room) ∙ e) in
      from_bind w.1 λ t ht e₁.
      let g = strip_gives t w.0 e₁ in
      let r = read_sound s t o ht in
      let k = strip_shrinks t in
      let b_is : b ≡ encode (stripped t) = w.2 ∙ ap encode g.1 in
      let l : length (encode (stripped t)) ≤ length s =
      omega (arith, length_encode t, length_encode (stripped t), ap length r.0.bytes, k.long) in
      record {
        tree = t;
        target_reads = ht;
        apart = g.0;
        bytes = b_is;
        reads = ap read b_is ∙ read_encode (stripped t) (k.valid r.0.valid) (omega (arith, k.deep, r.0.deep)) (omega (arith, l, r.1));
        no_longer = omega (arith, l, ap length b_is);
        fits = w.3;
      }

  -- Sound, whatever the record was.
  pub strip_made_sound : SoundRecord b
  strip_made_sound = let m = strip_made in (stripped m.tree, m.reads, strip_sound m.tree)

  -- To strip the result again gives the same bytes.
  pub strip_idempotent : on_one strip b room ≡ result b
  strip_idempotent =
      let m = strip_made in
      let t = m.tree in
      strip_writes b (stripped t) room m.reads (sound_unrepeated (stripped t) (strip_sound t))
      ∙ ap (λ (x : Tree). written room (gives x)) (strip_again t)
      ∙ sym (strip_writes s t room m.target_reads m.apart)
      ∙ e
