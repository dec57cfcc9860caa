use Rattle.std.proofs.Common.{rules, ◌≡◌, [], ◌∷◌, ◌++◌, pos, length, take, ◌+ℤ◌, ◌-ℤ◌, sym, ap, ◌∙◌, ℕ, ℤ, List, arith}
use Rattle.std.specs.Prelude.{int_div}
use Rattle.std.proofs.lemmas.List.{length-take-le}
use Rattle.base.specs.Bytes.{line_feed}
use Rattle.calendar_count.specs.Calendar.{day_at, ymd}
use Rattle.calendar_count.specs.Range.{IsCount}
use Rattle.calendar_count.proofs.lemmas.Signed.{signed}
use Rattle.parsing_values.specs.declared.fields.Fields.{Fields}
use Rattle.instants_answers.specs.Moved.{IsMoved}
use Rattle.parsing_values.specs.Moment.{whole_text}
use Rattle.instants_answers.proofs.FillLemmas.{two_halves, whole_length, whole_is_line, utc_is_clock}
use Rattle.instants_answers.proofs.MovedLemmas.{moved, line_is, shown_is, fits}
use Rattle.instants_answers.proofs.fill.fill_text.Goals as goal

-- the text has thirty bytes
long : (text : List ℕ) (f : Fields) → text ≡ whole_text f → length text ≡ 30
long text f e = ap length e ∙ whole_length f

pub slice_bounds-put_first-end : goal.slice_bounds-put_first-end
slice_bounds-put_first-end c = sym (length-take-le 16 c.args.text.now (omega (arith, long c.args.text.now c.args.fields.now c.requires.text)))

pub put_first-requires-clause-few : goal.put_first-requires-clause-few
put_first-requires-clause-few c = omega (arith, length-take-le 16 c.args.text.now (omega (arith, long c.args.text.now c.args.fields.now c.requires.text)))

pub slice_bounds-put-end : goal.slice_bounds-put-end
slice_bounds-put-end c = omega (arith, long c.args.text.now c.args.fields.now c.requires.text)

-- the day and the minute stay as they are
stays : (f : Fields) (count : ℕ) → IsCount count → day_at count ≡ ymd (pos f.year) f.month f.day → IsMoved f (pos f.minute) f.day f.minute
stays f count low here = moved f count count f.day f.minute (pos f.minute) low low here here f.day_is_there.4 f.within_a_day (omega (arith, signed))

no_minutes : (minute : ℕ) (offset : ℤ) → offset ≡ pos 0 → pos minute ≡ pos minute +ℤ (int_div (pos 0) (pos 60) -ℤ offset)
no_minutes minute offset e = rw e (omega (arith, signed))

pub returns-clause-line : goal.returns-clause-line
returns-clause-line c =
    let f = c.args.fields.now in
    let here : day_at c.count_of_day.result ≡ ymd (pos f.year) f.month f.day = search rules in
    let text = c.args.text.now in
    let put : take 30 c.put.new.room ≡ text = two_halves text c.put_first.new.room c.put.new.room (long text f c.requires.text) c.put_first.ensures.prefix c.put.ensures.prefix in
    rw (line_is f (pos 0) (pos f.minute) f.day f.minute (stays f c.count_of_day.result c.count_of_day.ensures.bound here) utc_is_clock c.digits.ensures.bound (no_minutes f.minute f.offset c.requires.utc)) (record {
      bytes = c.put-2.ensures.prefix ∙ ap (λ (l : List ℕ). l ++ line_feed ∷ []) (put ∙ c.requires.text ∙ whole_is_line f);
      most = omega arith;
    })

pub returns-clause-shown : goal.returns-clause-shown
returns-clause-shown c =
    let f = c.args.fields.now in
    let here : day_at c.count_of_day.result ≡ ymd (pos f.year) f.month f.day = search rules in
    shown_is f (pos 0) (pos f.minute) f.day f.minute (stays f c.count_of_day.result c.count_of_day.ensures.bound here) utc_is_clock c.digits.ensures.bound (no_minutes f.minute f.offset c.requires.utc)

pub returns-clause-fits : goal.returns-clause-fits
returns-clause-fits c =
    let f = c.args.fields.now in
    let here : day_at c.count_of_day.result ≡ ymd (pos f.year) f.month f.day = search rules in
    fits f (pos 0) (pos f.minute) f.day f.minute (stays f c.count_of_day.result c.count_of_day.ensures.bound here) utc_is_clock c.digits.ensures.bound (no_minutes f.minute f.offset c.requires.utc)
