-- The counts of a tally are those of its history.
use Rattle.std.proofs.Common.{◌≡◌, ℕ, ◌+◌, ◌<◌, ◌≤◌, List, [], ◌∷◌, ◌++◌, refl, ap, sym, subst, ◌∙◌, arith, le_refl}
use mathlib.Core.List.{IsPrefix}
use Rattle.acra_base.specs.Histories.{Leads, leads_between, leads_one, leads_keeps}
use Rattle.turnstile_tally.specs.declared.machine.Side.{Side}
use Rattle.turnstile_tally.specs.declared.machine.Side.TheVariants.{Left, Right}
use Rattle.turnstile_tally.specs.declared.machine.Tally.{Tally}
use Rattle.turnstile_tally.specs.Counting.{raised, count, Counts, is, calls}

raised_by : (t : Tally) (call side : Side) → count (raised t call) side ≤ count t side + is side call
raised_by t Left Left = omega arith
raised_by t Left Right = omega arith
raised_by t Right Left = omega arith
raised_by t Right Right = omega arith

-- a count is at most the calls of its side
pub counted : (first last : Tally) (side : Side) (es : List (Side × Tally)) → Leads Counts first es last → count last side ≤ count first side + calls side es
counted first last side [] e = omega (arith, ap (λ (t : Tally). count t side) e)
counted first last side (e ∷ es) h =
    let step = raised_by first e.0 side in
    let same = ap (λ (t : Tally). count t side) h.1.0 in
    let rest = counted h.0 last side es h.2 in
    omega (arith, step, same, rest)

-- the last reply is the last state
pub last_reply : (first last : Tally) (es : List (Side × Tally)) (call : Side) (reply : Tally) → Leads Counts first (es ++ (call, reply) ∷ []) last → reply ≡ last
last_reply first last [] call reply h = h.1.1 ∙ sym h.2
last_reply first last (e ∷ es) call reply h = last_reply h.0 last es call reply h.2

-- a history that begins with one has its calls
pub calls_more : (side : Side) (es fs : List (Side × Tally)) → calls side (es ++ fs) ≡ calls side es + calls side fs
calls_more side [] fs = omega arith
calls_more side (e ∷ es) fs = let rest = calls_more side es fs in omega (arith, rest)

nothing : (side : Side) → count record { left = 0; right = 0 } side ≡ 0
nothing Left = refl
nothing Right = refl

-- a reply that has a count is of a history with a call
pub shows : (last : Tally) (side : Side) (es : List (Side × Tally)) (call : Side) (reply : Tally) → Leads Counts record { left = 0; right = 0 } (es ++ (call, reply) ∷ []) last → 0 < count reply side → 0 < calls side (es ++ (call, reply) ∷ [])
shows last side es call reply h some = let same = ap (λ (t : Tally). count t side) (last_reply _ last es call reply h) in let most = counted _ last side (es ++ (call, reply) ∷ []) h in let none = nothing side in omega (arith, same, most, some, none)

-- what has a call has it in each history that begins so
pub still_calls : (side : Side) (es fs gs : List (Side × Tally)) → IsPrefix es fs → IsPrefix fs gs → 0 < calls side es → 0 < calls side gs
still_calls side es fs gs p q some =
    let one = calls_more side es p.0 in let two = calls_more side fs q.0 in
    let one' = ap (calls side) p.1 in let two' = ap (calls side) q.1 in
    omega (arith, one, two, one', two', some)

one_state : (a b c d : Tally) (call : Side) (reply : Tally) → a ≡ b → Counts a call reply c → Counts b call reply d → c ≡ d
one_state a b c d call reply same p q = p.0 ∙ (ap (λ (t : Tally). raised t call) same ∙ sym q.0)

-- the count of a side is at least so much, and a u64
abbrev pub IsAtLeast : Side → ℕ → Tally → Type 0
IsAtLeast side n t = (n ≤ count t side) × (count t side < 18446744073709551616)

raised_keeps : (side : Side) (n : ℕ) (t : Tally) (call : Side) → IsAtLeast side n t → IsAtLeast side n (raised t call)
raised_keeps Left n t Left k = (omega (arith, k.0, k.1), omega (arith, k.0, k.1))
raised_keeps Left n t Right k = k
raised_keeps Right n t Left k = k
raised_keeps Right n t Right k = (omega (arith, k.0, k.1), omega (arith, k.0, k.1))

-- what was counted in a state that a beginning leaves is counted in the end
pub stays : (first seen last : Tally) (known history : List (Side × Tally)) (side : Side) → count seen side < 18446744073709551616 → Leads Counts first known seen → IsPrefix known history → Leads Counts first history last → count seen side ≤ count last side
stays first seen last known history side fits p begins q =
    let between = leads_between Counts first last known begins.0 (subst (λ (es : List (Side × Tally)). Leads Counts first es last) (sym begins.1) q) in
    let same : between.0 ≡ seen = leads_one Counts (λ (t : Tally). t) one_state first first between.0 seen known refl between.1 p in
    let start : IsAtLeast side (count seen side) between.0 = subst (IsAtLeast side (count seen side)) (sym same) (le_refl (count seen side), fits) in
    (leads_keeps Counts (IsAtLeast side (count seen side)) (λ before after call reply k s. subst (IsAtLeast side (count seen side)) (sym s.0) (raised_keeps side (count seen side) before call k)) between.0 last begins.0 start between.2).0

is_own : (side : Side) → is side side ≡ 1
is_own Left = refl
is_own Right = refl

-- a history that ends with a call of the side has one
pub calls_own : (side : Side) (es : List (Side × Tally)) (reply : Tally) → 0 < calls side (es ++ (side, reply) ∷ [])
calls_own side es reply = let more = calls_more side es ((side, reply) ∷ []) in let own = is_own side in omega (arith, more, own)

raised_some : (t : Tally) (call : Side) → 0 < count (raised t call) call
raised_some t Left = omega arith
raised_some t Right = omega arith

-- after a call its side has a count
pub counts_own : (first last : Tally) (es : List (Side × Tally)) (call : Side) (reply : Tally) → Leads Counts first (es ++ (call, reply) ∷ []) last → 0 < count last call
counts_own first last [] call reply h = subst (λ (t : Tally). 0 < count t call) (sym (h.2 ∙ h.1.0)) (raised_some first call)
counts_own first last (e ∷ es) call reply h = counts_own h.0 last es call reply h.2
