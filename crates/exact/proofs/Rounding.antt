-- A fraction that equals a multiple of 2 ^ -s, rounded. Assumes nothing.
use Rattle.std.specs.Prelude.{◌≡◌, Bool, ◌⊎◌, ◌≢◌, ℕ, suc, ◌+◌, ◌*◌, ◌-◌, ◌^◌, ◌≤◌, ◌<◌, ℤ, nat_abs, Float}
use Rattle.std.proofs.Math.Path.{sym, ap, subst}
use Rattle.std.proofs.Common.{◌∙◌, inl, inr, one-mul, mul_assoc, le_of_lt, eq-or-lt_of_le, lt_of_lt_of_le, arith, lit<, pow-add, pow_pos, pow_mono, shl_lt}
use Rattle.std.proofs.Math.IntN.{pos, ◌*ℤ◌}
use Rattle.std.proofs.Math.Pow.{pow-lt}
use Rattle.std.specs.Float.{nan, inf, fin, Format, binary32, binary64}
use Rattle.std.specs.Float.Ieee.{prec, emax, low, up, down, round}
use Rattle.std.specs.Float.Ieee.Exact.{HasValue, round_exact}
use Rattle.std.specs.Float.Ieee.Scale.{round_same}
use Rattle.integers.specs.Integer.{signed}
use Rattle.integers.proofs.Integer.{signed_scale, nat_abs_signed, nat_abs_*}
use Rattle.integers.proofs.Integer.{*ℤ-cancel-r, pos_nonzero}
use Rattle.exact.specs.Multiple.{Multiple, Small}

pub unit_nonzero : (s : ℕ) → pos (2 ^ s) ≢ pos 0
unit_nonzero s = pos_nonzero (2 ^ s) (pow_pos s)

-- ---- what the format holds: c / 2 ^ s rounds to itself
module _ (f : Format) (t : Bool) (s : ℕ) (sl : s ≤ low f) where
  powers : (a : ℕ) → a * 2 ^ low f ≡ a * 2 ^ (low f - s) * 2 ^ s
  powers a =
      ap (λ (x : ℕ). a * 2 ^ x) (w (low f) sl) ∙ ap (λ (x : ℕ). a * x) (pow-add 2 (low f - s) s)
      ∙ sym (mul_assoc a (2 ^ (low f - s)) (2 ^ s))
    where
      w : (l : ℕ) → s ≤ l → l ≡ l - s + s
      w l h = omega arith

  room : (f : Format) (l : ℕ) → prec f + (l - s) < l + suc (emax f)
  room f l = w (prec f) (emax f) l (strict f)
    where
      w : (p e l : ℕ) → p < suc e → p + (l - s) < l + suc e
      w p e l h = omega arith

      strict : (f : Format) → prec f < suc (emax f)
      strict binary32 = lit< tt
      strict binary64 = lit< tt

  under_top : (c : ℕ) → c < 2 ^ prec f → HasValue (round f t c (2 ^ s)) t c (2 ^ s)
  under_top c h =
      round_exact f t c (2 ^ s) c (low f - s) (pow_pos s) h (lt_of_lt_of_le (shl_lt (prec f) (low f - s) h) (pow_mono (le_of_lt (room f (low f)))))
      (powers c)

  at_top : HasValue (round f t (2 ^ prec f) (2 ^ s)) t (2 ^ prec f) (2 ^ s)
  at_top =
      round_exact f t (2 ^ prec f) (2 ^ s) 1 (prec f + (low f - s)) (pow_pos s) (one_lt f)
      (subst (λ (x : ℕ). x < 2 ^ (low f + suc (emax f))) (sym (one-mul (2 ^ (prec f + (low f - s))))) (pow-lt (room f (low f))))
      (powers (2 ^ prec f) ∙ ap (λ (x : ℕ). x * 2 ^ s) (sym (pow-add 2 (prec f) (low f - s)) ∙ sym (one-mul (2 ^ (prec f + (low f - s))))))
    where
      one_lt : (f : Format) → 1 < 2 ^ prec f
      one_lt binary32 = lit< tt
      one_lt binary64 = lit< tt

  pub round_multiple : (c : ℕ) → c ≤ 2 ^ prec f → HasValue (round f t c (2 ^ s)) t c (2 ^ s)
  round_multiple c h = go (eq-or-lt_of_le h)
    where
      go : (c ≡ 2 ^ prec f) ⊎ (c < 2 ^ prec f) → HasValue (round f t c (2 ^ s)) t c (2 ^ s)
      go (inl e) = subst (λ (x : ℕ). HasValue (round f t x (2 ^ s)) t x (2 ^ s)) (sym e) at_top
      go (inr l) = under_top c l

of_value : (s : ℕ) (x : Float) (t : Bool) (c : ℕ) → HasValue x t c (2 ^ s) → Multiple s x (signed t c)
of_value s nan t c v = v
of_value s (inf u) t c v = v
of_value s (fin u k e) t c v =
    ap (λ (b : Bool). signed b (k * up e) *ℤ pos (2 ^ s)) v.0 ∙ sym (signed_scale t (k * up e) (2 ^ s)) ∙ ap (signed t) v.1
    ∙ signed_scale t c (down e)

module _ (s : ℕ) (sl : s ≤ low binary64) where
  -- a fraction ± a / b that equals m / 2 ^ s, rounded
  pub multiple_round : (t : Bool) (a b : ℕ) (m : ℤ) → 0 < b → signed t a *ℤ pos (2 ^ s) ≡ m *ℤ pos b → Small m → Multiple s (round binary64 t a b) m
  multiple_round t a b m B e h =
      let size : a * 2 ^ s ≡ nat_abs m * b =
      ap (λ (x : ℕ). x * 2 ^ s) (sym (nat_abs_signed t a)) ∙ sym (nat_abs_* (signed t a) (pos (2 ^ s))) ∙ ap nat_abs e ∙ nat_abs_* m (pos b) in
      let sign : signed t (nat_abs m) ≡ m =
      *ℤ-cancel-r (signed t (nat_abs m)) m (pos b) (pos_nonzero b B)
      (sym (signed_scale t (nat_abs m) b) ∙ ap (signed t) (sym size) ∙ signed_scale t a (2 ^ s) ∙ e) in
      subst (λ (x : Float). Multiple s x m) (sym (round_same binary64 t a b (nat_abs m) (2 ^ s) B (pow_pos s) size))
      (subst (Multiple s (round binary64 t (nat_abs m) (2 ^ s))) sign
      (of_value s (round binary64 t (nat_abs m) (2 ^ s)) t (nat_abs m) (round_multiple binary64 t s sl (nat_abs m) h)))
