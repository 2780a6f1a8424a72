-- What is read of the devices, one after another.
use Rattle.std.proofs.Common.{◌≡◌, ◌<◌, ◌≤◌, ◌+◌, ℕ, zero, suc, Bool, true, false, refl, sym, ap, ◌∙◌, subst, List, [], ◌∷◌, ◌++◌, length, map, append-nil, Option, Some, None, ◌&&◌, nat_lt, nat_eq, cond, is_some, option_map, arith}
use Rattle.std.specs.List.{flat_map, list_all, list_any, range_with_len}
use Rattle.std.specs.Option.{option_to_list}
use Rattle.std.proofs.lemmas.Bool.{lt-ltb}
use Rattle.std.proofs.lemmas.List.Folds.{list_all-append}
use Rattle.std.proofs.lemmas.List.Concat.{flat_map-append}
use Rattle.std.proofs.lemmas.List.FromFn.{map-range_with_len_more, length-map-range_with_len}
use Rattle.gps_fixed.specs.Moment.{Moment}
use Rattle.gps_report.specs.declared.fix.Fix.{Fix}
use Rattle.gps_report.specs.declared.fix.Sky.{Sky}
use Rattle.gps_report.specs.declared.report.Report.{Report}
use Rattle.json_line.specs.Lines.{is_tpv, is_sky}
use Rattle.book_log.specs.Entries.{Entry}
use Rattle.book_log.specs.History.{active, history}
use Rattle.book_log.specs.DeviceLogView.{DeviceLogView, LogHolds}
use Rattle.book_log.specs.Readings.{last_fix, last_sky, last_stamp}
use Rattle.book_log.specs.Standing.{StandsFor}
use Rattle.book_replies.specs.Polling.{is_poll, without_reports}
use Rattle.book_replies.specs.Replies.{answered}
use Rattle.book_replies.specs.ReplyDataView.{AreOfDevices, ReplyDataView}
use Rattle.book_replies.proofs.Polls.{polls_alone}
use Rattle.gps_command.specs.declared.request.RawCommand.{RawCommand}
use Rattle.gps_report.specs.declared.policy.Policy.{Policy}
use Rattle.report_book.specs.Knowing.{AreRead, fix_of, fix_reports, known_in, shown_in, sky_of, sky_reports}

pub none_read : (log : List Entry) → AreRead 0 log [] [] []
none_read log = record { firsts_are = refl; fixes_are = refl; skies_are = refl }

-- one more stamp
pub stamp_read : (n : ℕ) (log : List Entry) (firsts : List (Option Moment)) (first : Option Moment) → firsts ≡ map (λ d. active d log) (range_with_len 0 n) → first ≡ active n log
    → firsts ++ first ∷ [] ≡ map (λ d. active d log) (range_with_len 0 (n + 1))
stamp_read n log firsts first read one =
    ap (λ l. l ++ first ∷ []) read ∙ ap (λ x. map (λ d. active d log) (range_with_len 0 n) ++ x ∷ []) one
    ∙ sym (map-range_with_len_more (λ d. active d log) 0 n n (omega arith))

pub stamps_long : (n : ℕ) (log : List Entry) (firsts : List (Option Moment)) → firsts ≡ map (λ d. active d log) (range_with_len 0 n) → length firsts ≡ n
stamps_long n log firsts read = ap length read ∙ length-map-range_with_len (λ d. active d log) 0 n

-- what was read without reports
pub read_stamps : (n : ℕ) (log : List Entry) (known : ReplyDataView) → known.firsts ≡ map (λ d. active d log) (range_with_len 0 n) → known.last ≡ last_stamp log → known.fixes ≡ [] → known.skies ≡ []
    → known ≡ without_reports (known_in n log)
read_stamps n log known firsts last fixes skies =
    let stamps = map (λ d. active d log) (range_with_len 0 n) in
    let by_firsts : known ≡ record { firsts = stamps; last = known.last; fixes = known.fixes; skies = known.skies } =
    ap (λ (f : List (Option Moment)). record { firsts = f; last = known.last; fixes = known.fixes; skies = known.skies }) firsts in
    let by_last : known ≡ record { firsts = stamps; last = last_stamp log; fixes = known.fixes; skies = known.skies } =
    by_firsts ∙ ap (λ (l : Option Moment). record { firsts = stamps; last = l; fixes = known.fixes; skies = known.skies }) last in
    let by_fixes : known ≡ record { firsts = stamps; last = last_stamp log; fixes = []; skies = known.skies } =
    by_last ∙ ap (λ (f : List Report). record { firsts = stamps; last = last_stamp log; fixes = f; skies = known.skies }) fixes in
    by_fixes ∙ ap (λ (s : List Report). record { firsts = stamps; last = last_stamp log; fixes = []; skies = s }) skies

-- if no request polls, the answers are those by all that is known
pub shown_answers : (polls : Bool) (count : ℕ) (log : List Entry) (names : List (List ℕ)) (policy : Policy) (requests : List RawCommand) → (polls ≡ false → list_any is_poll requests ≡ false)
    → answered (shown_in polls count log) names policy requests ≡ answered (known_in count log) names policy requests
shown_answers true count log names policy requests none = refl
shown_answers false count log names policy requests none = polls_alone (known_in count log) names policy requests (none refl)

all_same : (l : List ℕ) → map (λ (x : ℕ). x) l ≡ l
all_same [] = refl
all_same (x ∷ l) = ap (λ m. x ∷ m) (all_same l)

joined : (f : ℕ → List Report) (n : ℕ) → flat_map f (range_with_len 0 (n + 1)) ≡ flat_map f (range_with_len 0 n) ++ f n
joined f n =
    ap (flat_map f) (sym (all_same (range_with_len 0 (n + 1))) ∙ map-range_with_len_more (λ (x : ℕ). x) 0 n n (omega arith) ∙ ap (λ l. l ++ n ∷ []) (all_same (range_with_len 0 n)))
    ∙ flat_map-append f (range_with_len 0 n) (n ∷ [])
    ∙ ap (λ r. flat_map f (range_with_len 0 n) ++ r) (append-nil (f n))

pub one_more_read : (n : ℕ) (log : List Entry) (firsts : List (Option Moment)) (fixes skies : List Report) (first : Option Moment) (is_active : Bool) (fix : Option Fix) (sky : Option Sky)
    → AreRead n log firsts fixes skies → first ≡ active n log → is_active ≡ is_some first → fix ≡ last_fix n (history log) → sky ≡ last_sky n (history log)
    → AreRead (n + 1) log (firsts ++ first ∷ []) (fixes ++ fix_reports n is_active fix) (skies ++ sky_reports n is_active sky)
one_more_read n log firsts fixes skies first is_active fix sky read one live two three =
    let lives : is_active ≡ is_some (active n log) = live ∙ ap is_some one in
    record {
      firsts_are = ap (λ l. l ++ first ∷ []) read.firsts_are ∙ ap (λ x. map (λ d. active d log) (range_with_len 0 n) ++ x ∷ []) one
          ∙ sym (map-range_with_len_more (λ d. active d log) 0 n n (omega arith));
      fixes_are = ap (λ l. l ++ fix_reports n is_active fix) read.fixes_are ∙ ap (λ x. flat_map (fix_of log) (range_with_len 0 n) ++ fix_reports n x fix) lives
          ∙ ap (λ x. flat_map (fix_of log) (range_with_len 0 n) ++ fix_reports n (is_some (active n log)) x) two ∙ sym (joined (fix_of log) n);
      skies_are = ap (λ l. l ++ sky_reports n is_active sky) read.skies_are ∙ ap (λ x. flat_map (sky_of log) (range_with_len 0 n) ++ sky_reports n x sky) lives
          ∙ ap (λ x. flat_map (sky_of log) (range_with_len 0 n) ++ sky_reports n (is_some (active n log)) x) three ∙ sym (joined (sky_of log) n);
    }

-- each of the lists passes a test, and all of them joined
each_passes : (p : Report → Bool) (f : ℕ → List Report) (n : ℕ) → ((d : ℕ) → d < n → list_all p (f d) ≡ true) → list_all p (flat_map f (range_with_len 0 n)) ≡ true
each_passes p f zero passes = refl
each_passes p f (suc k) passes =
    let P : ℕ → Type 0 = λ m. list_all p (flat_map f (range_with_len 0 m)) ≡ true in
    let e : k + 1 ≡ suc k = omega arith in
    subst P e
    (ap (list_all p) (joined f k)
    ∙ list_all-append p (flat_map f (range_with_len 0 k)) (f k)
    ∙ ap (λ b. b && list_all p (f k)) (each_passes p f k (λ d within. passes d (omega arith)))
    ∙ passes k (omega arith))

fix_fits : (n d : ℕ) (is_active : Bool) (fix : Option Fix) → d < n
    → (list_all (λ (r : Report). is_tpv r.body) (fix_reports d is_active fix) ≡ true) × (list_all (λ (r : Report). nat_lt r.device n) (fix_reports d is_active fix) ≡ true)
fix_fits n d false fix within = (refl, refl)
fix_fits n d true None within = (refl, refl)
fix_fits n d true (Some fix) within = (refl, ap (λ b. b && true) (lt-ltb d n within))

sky_fits : (n d : ℕ) (is_active : Bool) (sky : Option Sky) → d < n
    → (list_all (λ (r : Report). is_sky r.body) (sky_reports d is_active sky) ≡ true) × (list_all (λ (r : Report). nat_lt r.device n) (sky_reports d is_active sky) ≡ true)
sky_fits n d false sky within = (refl, refl)
sky_fits n d true None within = (refl, refl)
sky_fits n d true (Some sky) within = (refl, ap (λ b. b && true) (lt-ltb d n within))

-- what all devices give are fixes and skies of them
pub record Fit (count : ℕ) (firsts : List (Option Moment)) (fixes skies : List Report) : Type 0 where
  pub tpv : list_all (λ (r : Report). is_tpv r.body) fixes ≡ true
  pub sky : list_all (λ (r : Report). is_sky r.body) skies ≡ true
  pub fixes_named : AreOfDevices (length firsts) fixes
  pub skies_named : AreOfDevices (length firsts) skies
  pub long : length firsts ≡ count

pub all_fit : (log : DeviceLogView) (n : ℕ) (firsts : List (Option Moment)) (fixes skies : List Report) → LogHolds log
    → ((before : List Entry) → StandsFor log.opening before → AreRead n (before ++ log.log) firsts fixes skies) → Fit n firsts fixes skies
all_fit log n firsts fixes skies holds read =
    let before = holds.some.0 in
    let all = before ++ log.log in
    let r = read before holds.some.1 in
    let long : length firsts ≡ n = ap length r.firsts_are ∙ length-map-range_with_len (λ d. active d all) 0 n in
    let T : List Report → Type 0 = λ l. list_all (λ (x : Report). is_tpv x.body) l ≡ true in
    let S : List Report → Type 0 = λ l. list_all (λ (x : Report). is_sky x.body) l ≡ true in
    let N : List Report → Type 0 = λ l. AreOfDevices n l in
    let M : List Report → ℕ → Type 0 = λ l k. AreOfDevices k l in
    record {
      tpv = subst T (sym r.fixes_are) (each_passes (λ (x : Report). is_tpv x.body) (fix_of all) n (λ d within. (fix_fits n d (is_some (active d all)) (last_fix d (history all)) within).0));
      sky = subst S (sym r.skies_are) (each_passes (λ (x : Report). is_sky x.body) (sky_of all) n (λ d within. (sky_fits n d (is_some (active d all)) (last_sky d (history all)) within).0));
      fixes_named = subst (M fixes) (sym long) (subst N (sym r.fixes_are) (each_passes (λ (x : Report). nat_lt x.device n) (fix_of all) n (λ d within. (fix_fits n d (is_some (active d all)) (last_fix d (history all)) within).1)));
      skies_named = subst (M skies) (sym long) (subst N (sym r.skies_are) (each_passes (λ (x : Report). nat_lt x.device n) (sky_of all) n (λ d within. (sky_fits n d (is_some (active d all)) (last_sky d (history all)) within).1)));
      long = long;
    }

pub read_known : (count : ℕ) (log : List Entry) (known : ReplyDataView) → AreRead count log known.firsts known.fixes known.skies → known.last ≡ last_stamp log → known ≡ known_in count log
read_known count log known read last =
    let P : List (Option Moment) → Type 0 = λ f. record { firsts = f; last = known.last; fixes = known.fixes; skies = known.skies } ≡ known_in count log in
    subst P (sym read.firsts_are)
    (let Q : List Report → Type 0 = λ f. record { firsts = map (λ d. active d log) (range_with_len 0 count); last = known.last; fixes = f; skies = known.skies } ≡ known_in count log in
    subst Q (sym read.fixes_are)
    (let R : List Report → Type 0 = λ f. record { firsts = map (λ d. active d log) (range_with_len 0 count); last = known.last; fixes = flat_map (fix_of log) (range_with_len 0 count); skies = f } ≡ known_in count log in
    subst R (sym read.skies_are)
    (ap (λ l. record { firsts = map (λ d. active d log) (range_with_len 0 count); last = l; fixes = flat_map (fix_of log) (range_with_len 0 count); skies = flat_map (sky_of log) (range_with_len 0 count) }) last)))
