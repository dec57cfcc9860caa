-- Days of one weekday, in closed form.
use Rattle.std.proofs.Common.{arith, ℕ, ◌≡◌, ◌+◌, ◌-◌, ◌*◌, ◌%◌, ◌==◌, ◌<◌, ◌≤◌, refl}
use Rattle.calendar_count.specs.Calendar.{weekday_at}
use Rattle.calendar_count.specs.Closed.{sevenths}
use Rattle.calendar_count.proofs.lemmas.Counting.{count_before-sevenths}
use Rattle.calendar_dates.specs.Occurrence.{weekdays_before, IsNthAfter, IsNthBefore}

weekdays_before-is : (w n : ℕ) → w < 7 → weekdays_before w n ≡ sevenths w n
unfolding weekdays_before
weekdays_before-is w n h =
    let e = count_before-sevenths (λ k. weekday_at k == w) w 0 n h (omega arith) (λ k low. absurd (omega arith)) (λ k low high. refl) in
    omega (arith, e)

-- r days lead to the first such weekday after a day, and whole weeks from there to the nth
pub nth_after : (w n a r b : ℕ) → w < 7 → 1 ≤ n → 1 ≤ r → r ≤ 7 → (a + r) % 7 ≡ w → b ≡ a + r + 7 * (n - 1) → IsNthAfter w n a b
nth_after w n a r b h some low high day e = record {
  later = omega arith;
  weekday = omega arith;
  nth = omega (arith, weekdays_before-is w (b + 1) h, weekdays_before-is w (a + 1) h);
}

pub nth_after_only : (w n a r b : ℕ) → w < 7 → 1 ≤ r → r ≤ 7 → (a + r) % 7 ≡ w → IsNthAfter w n a b → b ≡ a + r + 7 * (n - 1)
nth_after_only w n a r b h low high day is =
    let later = is.later in
    let weekday = is.weekday in
    omega (arith, is.nth, weekdays_before-is w (b + 1) h, weekdays_before-is w (a + 1) h)

pub nth_after_some : (w n a b : ℕ) → w < 7 → IsNthAfter w n a b → 1 ≤ n
nth_after_some w n a b h is =
    let later = is.later in
    let weekday = is.weekday in
    omega (arith, is.nth, weekdays_before-is w (b + 1) h, weekdays_before-is w (a + 1) h)

pub nth_before : (w n a r b : ℕ) → w < 7 → 1 ≤ n → 1 ≤ r → r ≤ 7 → a % 7 ≡ (w + r) % 7 → a ≡ b + r + 7 * (n - 1) → IsNthBefore w n a b
nth_before w n a r b h some low high day e = record {
  earlier = omega arith;
  weekday = omega arith;
  nth = omega (arith, weekdays_before-is w a h, weekdays_before-is w b h);
}

pub nth_before_only : (w n a r b : ℕ) → w < 7 → 1 ≤ r → r ≤ 7 → a % 7 ≡ (w + r) % 7 → IsNthBefore w n a b → a ≡ b + r + 7 * (n - 1)
nth_before_only w n a r b h low high day is =
    let earlier = is.earlier in
    let weekday = is.weekday in
    omega (arith, is.nth, weekdays_before-is w a h, weekdays_before-is w b h)

pub nth_before_some : (w n a b : ℕ) → w < 7 → IsNthBefore w n a b → 1 ≤ n
nth_before_some w n a b h is =
    let earlier = is.earlier in
    let weekday = is.weekday in
    omega (arith, is.nth, weekdays_before-is w a h, weekdays_before-is w b h)
