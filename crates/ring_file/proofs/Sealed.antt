-- A file that opens is the one that was sealed.
use Rattle.std.proofs.Common.{◌≡◌, ℕ, ◌≤◌, ◌&&◌, Bool, true, false, if◌then◌else◌, leb, List, ◌++◌, length, take, drop, Option, Some, None, Result, Ok, Err, IfOk, refl, sym, ap, ◌∙◌, arith}
use Rattle.std.specs.Cmp.Lexicographic.{pointwise, same_text}
use Rattle.std.proofs.Common.{nat_eq}
use Rattle.std.proofs.lemmas.Cmp.{nat_list_eq_equiv}
use Rattle.std.proofs.lemmas.Bool.{leb-true, le-leb}
use Rattle.std.proofs.lemmas.List.{take_at, drop_at, take-append-drop, drop-drop, length-append, length-take, length-drop}
use Rattle.acra_block.specs.Containers.{Sealing, Opening}
use Rattle.keystore.specs.Rings.{RingState}
use Rattle.ring_file.specs.declared.file.RingFault.{RingFault}
use Rattle.ring_file.specs.declared.file.RingFault.TheVariants as fault
use Rattle.ring_file.specs.Form.{mark, ring_body, IsFileRing}
use Rattle.ring_file.specs.Reading.{ring_read}
use Rattle.ring_file.specs.Files.{file_body, IsReadBody, SpellsRing, ReadsAs}
use Rattle.ring_file.proofs.Rules.{both_true}
use Rattle.ring_file.proofs.Bodies.{body_again}

opened_by_test : (b : Bool) (o : Option (List ℕ)) (body : List ℕ) → Some body ≡ (if b then o else None) → (b ≡ true) × (o ≡ Some body)
opened_by_test true o body e = (refl, sym e)
opened_by_test false o body e = absurd cc

pub record Sealed (sealed : Sealing) (master bytes body : List ℕ) : Type 0 where
  pub nonce : List ℕ
  pub full : length nonce ≡ 12
  pub made : bytes ≡ mark ++ (nonce ++ sealed master nonce mark body)

pub file_spelled : (sealed : Sealing) (opened : Opening) → ((k n e s p : List ℕ) → opened k n e s ≡ Some p → s ≡ sealed k n e p) → (master bytes body : List ℕ) → Some body ≡ file_body opened master bytes → Sealed sealed master bytes body
file_spelled sealed opened only master bytes body e =
    let nonce = take 12 (drop 4 bytes) in
    let t = opened_by_test (leb 16 (length bytes) && pointwise nat_eq (take 4 bytes) mark) (opened master nonce mark (drop 16 bytes)) body e in
    let two = both_true (leb 16 (length bytes)) (pointwise nat_eq (take 4 bytes) mark) t.0 in
    let long : 16 ≤ length bytes = leb-true _ _ two.0 in
    let front : take 4 bytes ≡ mark = same_text (take 4 bytes) mark (sym two.1) in
    let seal : drop 16 bytes ≡ sealed master nonce mark body = only master nonce mark (drop 16 bytes) body t.1 in
    let rest : drop 12 (drop 4 bytes) ≡ drop 16 bytes = drop-drop 12 4 bytes in
    let behind : drop 4 bytes ≡ nonce ++ sealed master nonce mark body = sym (take-append-drop 12 (drop 4 bytes)) ∙ ap (λ (s : List ℕ). nonce ++ s) (rest ∙ seal) in
    record {
      nonce = nonce;
      full = omega (arith, length-take 12 (drop 4 bytes), length-drop 4 bytes);
      made = sym (take-append-drop 4 bytes) ∙ (ap (λ (s : List ℕ). s ++ drop 4 bytes) front ∙ ap (λ (s : List ℕ). mark ++ s) behind);
    }

pub file_opens : (sealed : Sealing) (opened : Opening) → ((k n e p : List ℕ) → opened k n e (sealed k n e p) ≡ Some p) → (master nonce body : List ℕ) → length nonce ≡ 12 → file_body opened master (mark ++ (nonce ++ sealed master nonce mark body)) ≡ Some body
file_opens sealed opened opens master nonce body full =
    let seal = sealed master nonce mark body in
    let bytes = mark ++ (nonce ++ seal) in
    let long : leb 16 (length bytes) ≡ true = le-leb _ _ (omega (arith, length-append nonce seal)) in
    let front : take 12 (nonce ++ seal) ≡ nonce = take_at nonce seal 12 full in
    let behind : drop 12 (nonce ++ seal) ≡ seal = drop_at nonce seal 12 full in
    let marked : pointwise nat_eq mark mark ≡ true = nat_list_eq_equiv.refl mark in
    rw (long, front, behind) (opens master nonce mark body)

read_as : (body : List ℕ) (result : Result RingState RingFault) (r : RingState) → ring_read body ≡ Ok r → IsReadBody body result → ReadsAs result r
read_as body (Ok found) r e h = (let same : ◌≡◌ {A = Result RingState ℕ} (Ok found) (Ok r) = sym h ∙ e in cc)
read_as body (Err fault.NotSealed) r e h = h
read_as body (Err (fault.BadForm place)) r e h = (let no_ring : ◌≡◌ {A = Result RingState ℕ} (Err h.0) (Ok r) = sym h.1 ∙ e in absurd cc)
read_as body (Err fault.NoMemory) r e h = tt

some_body : (a b : List ℕ) → ◌≡◌ {A = Option (List ℕ)} (Some a) (Some b) → a ≡ b
some_body a b e = cc

pub only_body : (sealed : Sealing) (opened : Opening) → ((k n e p : List ℕ) → opened k n e (sealed k n e p) ≡ Some p) → (master bytes body : List ℕ) (result : Result RingState RingFault) → Some body ≡ file_body opened master bytes → IsReadBody body result
    → (r : RingState) → SpellsRing sealed master bytes r → ReadsAs result r
only_body sealed opened opens master bytes body result e h r s =
    let found : file_body opened master bytes ≡ Some (ring_body r) = ap (file_body opened master) s.made ∙ file_opens sealed opened opens master s.nonce (ring_body r) s.full in
    let same : body ≡ ring_body r = some_body body (ring_body r) (e ∙ found) in
    read_as body result r (ap ring_read same ∙ body_again r s.rules) h

pub only_none : (sealed : Sealing) (opened : Opening) → ((k n e p : List ℕ) → opened k n e (sealed k n e p) ≡ Some p) → (master bytes : List ℕ) → ◌≡◌ {A = Option (List ℕ)} None (file_body opened master bytes) → (r : RingState) → SpellsRing sealed master bytes r → ⊥
only_none sealed opened opens master bytes e r s =
    let found : file_body opened master bytes ≡ Some (ring_body r) = ap (file_body opened master) s.made ∙ file_opens sealed opened opens master s.nonce (ring_body r) s.full in
    let both : ◌≡◌ {A = Option (List ℕ)} None (Some (ring_body r)) = e ∙ found in
    cc

found_if : (sealed : Sealing) (master bytes : List ℕ) (body : List ℕ) → Sealed sealed master bytes body → (r : RingState) → IsFileRing r → body ≡ ring_body r → SpellsRing sealed master bytes r
found_if sealed master bytes body s r rules same = record { nonce = s.nonce; full = s.full; rules = rules; made = s.made ∙ ap (λ (b : List ℕ). mark ++ (s.nonce ++ sealed master s.nonce mark b)) same }

pub found_body : (sealed : Sealing) (opened : Opening) → ((k n e s p : List ℕ) → opened k n e s ≡ Some p → s ≡ sealed k n e p) → (master bytes body : List ℕ) (result : Result RingState RingFault) → Some body ≡ file_body opened master bytes
    → IfOk result (λ r. IsFileRing r × (body ≡ ring_body r)) → IfOk result (λ r. SpellsRing sealed master bytes r)
found_body sealed opened only master bytes body (Ok r) e h = found_if sealed master bytes body (file_spelled sealed opened only master bytes body e) r h.0 h.1
found_body sealed opened only master bytes body (Err why) e h = tt
