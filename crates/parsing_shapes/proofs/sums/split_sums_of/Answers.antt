use Rattle.parsing_shapes.proofs.sums.split_sums_of.Goals as goal

pub fraction_of-requires-clause-few : goal.fraction_of-requires-clause-few
fraction_of-requires-clause-few c = c.read-ends.ensures.digits c.if-not-ends.false

pub returns-clause-sums : goal.returns-clause-sums
returns-clause-sums c =
    let last = c.read-ends.ensures.last c.if-not-ends.false in
    let sums = c.sums-sums.ensures in
    record {
      front = c.digits_of-lies.result.1;
      end = c.read-ends.result.1;
      both = c.joined.result;
      n = c.paired.result;
      front_taken = c.digits_of-lies.ensures c.if-not-lies.false;
      end_taken = last.window;
      joined = c.joined.ensures;
      paired = c.paired.ensures;
      days_are = sums.first;
      minutes_are = sums.second;
      offsets_are = sums.third;
      seconds_are = sums.fourth;
    }

pub returns-clause-fraction : goal.returns-clause-fraction
returns-clause-fraction c = c.fraction_of.ensures.writes _ _ _ (c.read-ends.ensures.last c.if-not-ends.false).fraction
