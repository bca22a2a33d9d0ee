-- What the folder's files give.
use Rattle.std.proofs.Common.{◌≡◌, ℕ, ◌^◌, ◌<◌, List, length, Result, Ok, Err, sym, ap, subst, ◌∙◌, arith}
use Rattle.acra_crypto.specs.Gcm.{aes256_gcm}
use Rattle.keystore.specs.Rings.{RingState}
use Rattle.ring_file.specs.Files.{SpellsRing}
use Rattle.ring_file.specs.Whole.{IsWholly}
use Rattle.audit_core.specs.Keys.{IsKeystore, NoRing, RingDue}

pub no_long_ring : (master file : List ℕ) → 2 ^ 24 < length file → NoRing master file
no_long_ring master file long ring r = absurd (omega (arith, long, r.short))

-- ---- a ring that was read

pub ring_due : (limit : ℕ) (master bytes text key : List ℕ) (ring : RingState) → ((r : RingState) → SpellsRing aes256_gcm master text r → ring ≡ r) → text ≡ bytes → key ≡ ring.audit_key
    → (file : List ℕ) → IsWholly limit (Ok bytes) file → RingDue master (Ok key) file
ring_due limit master bytes text key ring only same is file whole other k =
    is ∙ ap (λ (r : RingState). r.audit_key) (only other (subst (λ (xs : List ℕ). SpellsRing aes256_gcm master xs other) (sym (same ∙ whole)) k.spells))

pub ring_none : (limit : ℕ) (master bytes text : List ℕ) → ((r : RingState) → SpellsRing aes256_gcm master text r → ⊥) → text ≡ bytes → (file : List ℕ) → IsWholly limit (Ok bytes) file → NoRing master file
ring_none limit master bytes text never same file whole other k = never other (subst (λ (xs : List ℕ). SpellsRing aes256_gcm master xs other) (sym (same ∙ whole)) k.spells)
