use Rattle.parsing_shapes.proofs.moment.tailed_sums_of.Goals as goal

pub returns-clause-sums : goal.returns-clause-sums
returns-clause-sums c =
    let whole = c.digits_of_whole-fits.ensures in
    let sums = c.sums.ensures in
    record {
      front = c.digits_of_whole-fits.result.1;
      end = c.digits_of_whole-fits.result.2;
      both = c.joined.result;
      n = c.paired.result;
      front_taken = whole.front c.if-not-fits.false;
      end_taken = whole.last c.if-not-fits.false;
      joined = c.joined.ensures;
      paired = c.paired.ensures;
      days_are = sums.first;
      minutes_are = sums.second;
      offsets_are = sums.third;
      seconds_are = sums.fourth;
    }

pub returns-clause-fraction : goal.returns-clause-fraction
returns-clause-fraction c = c.digits_of_whole-fits.ensures.fraction c.if-not-fits.false
