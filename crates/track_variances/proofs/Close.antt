-- Laws of specs/Close.antt.
use Rattle.std.specs.Prelude.{ℕ, ◌+◌, ◌-◌, ◌≤◌, ◌<◌, min, ◌≡◌, Bool, true}
use Rattle.std.proofs.Common.{arith, ap₂, ◌∙◌}
use Rattle.std.proofs.Math.Decide.{dec_lt}
use Rattle.lists.specs.Test.{any, any_in, any-hit, any_found, any_in-hit, any_in_found, same_truth}
use Rattle.run_sums.specs.Runs.{runs}
use Rattle.track_variances.specs.Track.{some_places, some_run}
use Rattle.track_variances.specs.Close.{some_close}

module _ (test : ℕ → ℕ → Bool) (symmetric : (p q : ℕ) → test p q ≡ test q p) (cells k : ℕ) (wide : 0 < k) (long : k ≤ cells) where
  -- a close pair is one of a run
  close_in_run : some_close test cells k ≡ true → some_run test cells k ≡ true
  close_in_run h =
      let u = any_found (λ p. any_in (test p) p (min (p + k) cells)) cells h in
      let p = u.0 in
      let w = any_in_found (test p) p (min (p + k) cells) u.2 in
      in_run p w.0 u.1 w.1 w.2 w.3
    where
      in_run : (p q : ℕ) → p < cells → p ≤ q → q < min (p + k) cells → test p q ≡ true → some_run test cells k ≡ true
      in_run p q a b d t =
          let i = min p (cells - k) in
          let x : i + (p - i) ≡ p = omega arith in
          let y : i + (q - i) ≡ q = omega arith in
          any-hit (some_places test k) (runs cells k) i (omega arith)
          (any-hit (λ m. any (λ n. test (i + m) (i + n)) k) k (p - i) (omega arith)
          (any-hit (λ n. test (i + (p - i)) (i + n)) k (q - i) (omega arith) (ap₂ test x y ∙ t)))

  -- a pair of a run is close
  run_is_close : some_run test cells k ≡ true → some_close test cells k ≡ true
  run_is_close h =
      let u = any_found (some_places test k) (runs cells k) h in
      let i = u.0 in
      let w = any_found (λ a. any (λ b. test (i + a) (i + b)) k) k u.2 in
      let a = w.0 in
      let x = any_found (λ b. test (i + a) (i + b)) k w.2 in
      close i a x.0 u.1 w.1 x.1 x.2
    where
      hit : (p q : ℕ) → p < cells → p ≤ q → q < min (p + k) cells → test p q ≡ true → some_close test cells k ≡ true
      hit p q a b d t = any-hit (λ j. any_in (test j) j (min (j + k) cells)) cells p a (any_in-hit (test p) p (min (p + k) cells) q b d t)

      close : (i a b : ℕ) → i < runs cells k → a < k → b < k → test (i + a) (i + b) ≡ true → some_close test cells k ≡ true
      close i a b o l m t = elim (dec_lt b a) [
        | yes g ↦ hit (i + b) (i + a) (omega arith) (omega arith) (omega arith) (symmetric (i + b) (i + a) ∙ t)
        | no g ↦ hit (i + a) (i + b) (omega arith) (omega arith) (omega arith) t
      ]

  pub close-run : some_close test cells k ≡ some_run test cells k
  close-run = same_truth _ _ close_in_run run_is_close
