-- What a command line asks for, without the memory that its texts lie in.
use Rattle.std.specs.Prelude.{option_map}
use Rattle.fb_request.specs.Requests.{Checking, Decoding, Planning, Predicting, Request, Sampling, check, decode, plan, predict, sample}
use Rattle.fb_request.specs.declared.request.Checking.{Checking as BorrowedChecking}
use Rattle.fb_request.specs.declared.request.Decoding.{Decoding as BorrowedDecoding}
use Rattle.fb_request.specs.declared.request.Planning.{Planning as BorrowedPlanning}
use Rattle.fb_request.specs.declared.request.Predicting.{Predicting as BorrowedPredicting}
use Rattle.fb_request.specs.declared.request.Request.{Request as BorrowedRequest}
use Rattle.fb_request.specs.declared.request.Request.TheVariants.{Check, Decode, Plan, Predict, Sample}
use Rattle.fb_request.specs.declared.request.Sampling.{Sampling as ReadSampling}

abbrev pub plain_decoding : BorrowedDecoding → Decoding
plain_decoding d = record {
  graph = d.graph.now;
  plan = option_map (λ name. name.now) d.plan;
  shots = d.shots.now;
  format = d.format;
  workers = d.workers;
  window = d.window;
  trace = d.trace;
}

abbrev pub plain_checking : BorrowedChecking → Checking
plain_checking c =
    record { graph = c.graph.now; shots = c.shots.now; format = c.format; report = c.report.now }

abbrev pub plain_sampling : ReadSampling → Sampling
plain_sampling s = record {
  distance = s.distance;
  rounds = s.rounds;
  units = s.units;
  rate = s.rate;
  start = s.start;
  shots = s.shots;
  workers = s.workers;
  window = s.window;
}

abbrev pub plain_planning : BorrowedPlanning → Planning
plain_planning p = record { graph = p.graph.now; units = p.units }

abbrev pub plain_predicting : BorrowedPredicting → Predicting
plain_predicting p =
    record { graph = p.graph.now; observables = p.observables.now; report = p.report.now; to = p.to }

abbrev pub plain_request : BorrowedRequest → Request
plain_request (Decode d) = decode (plain_decoding d)
plain_request (Check c) = check (plain_checking c)
plain_request (Sample s) = sample (plain_sampling s)
plain_request (Plan p) = plan (plain_planning p)
plain_request (Predict p) = predict (plain_predicting p)
