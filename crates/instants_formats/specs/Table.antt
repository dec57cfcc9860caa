-- The formats that have a name, the more exact ones before others that read a part of the same text.
use Rattle.std.specs.Prelude.{List, [], ◌∷◌, codes}
use Rattle.instants_formats.specs.Format.{FormatSaid}
use Rattle.instants_formats.specs.declared.format.Lacking.TheVariants.{Nothing, Utc, Offset, YearAndOffset, TimeAndOffset}

unfoldable pub table : List FormatSaid
table =
    record { name = codes "access-log"; language = codes "strftime"; description = codes "[%d/%b/%Y:%T %z]"; lacks = Nothing } ∷
    record { name = codes "go-time"; language = codes "v3"; description = codes "[year]-[month]-[day] [hour]:[minute]:[second][optional [.[subsecond]]] [offset_hour sign:mandatory][offset_minute]"; lacks = Nothing } ∷
    record { name = codes "serilog"; language = codes "v3"; description = codes "[year]-[month]-[day] [hour]:[minute]:[second].[subsecond] [offset_hour sign:mandatory]:[offset_minute]"; lacks = Nothing } ∷
    record { name = codes "jenkins"; language = codes "v3"; description = codes "[year]-[month]-[day] [hour]:[minute]:[second].[subsecond][offset_hour sign:mandatory][offset_minute]"; lacks = Nothing } ∷
    record { name = codes "psql"; language = codes "v3"; description = codes "[year]-[month]-[day] [hour]:[minute]:[second][optional [.[subsecond]]][offset_hour sign:mandatory][optional [:[offset_minute]]]"; lacks = Nothing } ∷
    record { name = codes "git-log"; language = codes "strftime"; description = codes "%a %b %-d %T %Y %z"; lacks = Nothing } ∷
    record { name = codes "twitter"; language = codes "strftime"; description = codes "%a %b %e %T %z %Y"; lacks = Nothing } ∷
    record { name = codes "docker-json"; language = codes "v3"; description = codes "\"time\":\"[year]-[month]-[day]T[hour]:[minute]:[second][optional [.[subsecond]]]Z\""; lacks = Utc } ∷
    record { name = codes "json-time"; language = codes "v3"; description = codes "[first [\"time\"] [\"ts\"] [\"timestamp\"] [\"@timestamp\"] [\"eventTime\"]]:\"[year]-[month]-[day]T[hour]:[minute]:[second][optional [.[subsecond]]][first [Z] [[offset_hour sign:mandatory]:[offset_minute]]]\""; lacks = Utc } ∷
    record { name = codes "auditd"; language = codes "v3"; description = codes "audit([unix_timestamp].[subsecond]"; lacks = Nothing } ∷
    record { name = codes "haproxy"; language = codes "v3"; description = codes "\\[[day]/[month repr:short]/[year]:[hour]:[minute]:[second].[subsecond]"; lacks = Offset } ∷
    record { name = codes "apache-error"; language = codes "v3"; description = codes "[weekday repr:short] [month repr:short] [day] [hour]:[minute]:[second].[subsecond] [year]"; lacks = Offset } ∷
    record { name = codes "python-logging"; language = codes "v3"; description = codes "[year]-[month]-[day] [hour]:[minute]:[second],[subsecond]"; lacks = Offset } ∷
    record { name = codes "postgres"; language = codes "v3"; description = codes "[year]-[month]-[day] [hour]:[minute]:[second].[subsecond]"; lacks = Offset } ∷
    record { name = codes "go-log"; language = codes "v3"; description = codes "[year]/[month]/[day] [hour]:[minute]:[second].[subsecond]"; lacks = Offset } ∷
    record { name = codes "tomcat"; language = codes "v3"; description = codes "[day]-[month repr:short]-[year] [hour]:[minute]:[second].[subsecond]"; lacks = Offset } ∷
    record { name = codes "redis"; language = codes "v3"; description = codes "[day] [month repr:short] [year] [hour]:[minute]:[second].[subsecond]"; lacks = Offset } ∷
    record { name = codes "suricata"; language = codes "v3"; description = codes "[month]/[day]/[year]-[hour]:[minute]:[second].[subsecond]"; lacks = Offset } ∷
    record { name = codes "erlang"; language = codes "v3"; description = codes "[day padding:none]-[month repr:short]-[year]::[hour]:[minute]:[second][optional [.[subsecond]]]"; lacks = Offset } ∷
    record { name = codes "glog"; language = codes "v3"; description = codes "[first [I] [W] [E] [F]][year][month][day] [hour]:[minute]:[second].[subsecond]"; lacks = Offset } ∷
    record { name = codes "java-logging"; language = codes "v3"; description = codes "[month repr:short] [day], [year] [hour repr:12 padding:none]:[minute]:[second] [period]"; lacks = Offset } ∷
    record { name = codes "mdy-am-pm"; language = codes "v3"; description = codes "[month]/[day]/[year] [hour repr:12]:[minute]:[second][optional [.[subsecond]]] [period]"; lacks = Offset } ∷
    record { name = codes "windows-events"; language = codes "v3"; description = codes "[month padding:none]/[day padding:none]/[year] [hour repr:12 padding:none]:[minute]:[second] [period]"; lacks = Offset } ∷
    record { name = codes "dmy-dots"; language = codes "v3"; description = codes "[day].[month].[year] [hour]:[minute]:[second][optional [.[subsecond]]]"; lacks = Offset } ∷
    record { name = codes "dmy"; language = codes "v3"; description = codes "[day]/[month]/[year] [hour]:[minute]:[second][optional [.[subsecond]]]"; lacks = Offset } ∷
    record { name = codes "mdy"; language = codes "v3"; description = codes "[month]/[day]/[year] [hour]:[minute]:[second][optional [.[subsecond]]]"; lacks = Offset } ∷
    record { name = codes "ctime"; language = codes "strftime"; description = codes "%a %b %e %T %Y"; lacks = Offset } ∷
    record { name = codes "date-utc"; language = codes "strftime"; description = codes "%a %b %e %T UTC %Y"; lacks = Utc } ∷
    record { name = codes "cloudfront"; language = codes "strftime"; description = codes "%F%t%T"; lacks = Offset } ∷
    record { name = codes "apt"; language = codes "strftime"; description = codes "%F  %T"; lacks = Offset } ∷
    record { name = codes "mysql"; language = codes "strftime"; description = codes "%F %T"; lacks = Offset } ∷
    record { name = codes "mariadb"; language = codes "strftime"; description = codes "%F %k:%M:%S"; lacks = Offset } ∷
    record { name = codes "nginx-error"; language = codes "strftime"; description = codes "%Y/%m/%d %T"; lacks = Offset } ∷
    record { name = codes "php"; language = codes "strftime"; description = codes "%d-%b-%Y %T"; lacks = Offset } ∷
    record { name = codes "oracle"; language = codes "v3"; description = codes "[day]-[month repr:short case_sensitive:false]-[year] [hour]:[minute]:[second]"; lacks = Offset } ∷
    record { name = codes "cisco-asa"; language = codes "strftime"; description = codes "%b %e %Y %T"; lacks = Offset } ∷
    record { name = codes "openssl"; language = codes "strftime"; description = codes "%b %e %T %Y"; lacks = Offset } ∷
    record { name = codes "pacman"; language = codes "strftime"; description = codes "%F %R"; lacks = Offset } ∷
    record { name = codes "unix-fraction"; language = codes "v3"; description = codes "[unix_timestamp].[subsecond]"; lacks = Nothing } ∷
    record { name = codes "unix-nanos"; language = codes "v3"; description = codes "[unix_timestamp precision:nanosecond]"; lacks = Nothing } ∷
    record { name = codes "unix-micros"; language = codes "v3"; description = codes "[unix_timestamp precision:microsecond]"; lacks = Nothing } ∷
    record { name = codes "unix-millis"; language = codes "v3"; description = codes "[unix_timestamp precision:millisecond]"; lacks = Nothing } ∷
    record { name = codes "unix-time"; language = codes "strftime"; description = codes "%s"; lacks = Nothing } ∷
    record { name = codes "klog"; language = codes "v3"; description = codes "[first [I] [W] [E] [F]][month][day] [hour]:[minute]:[second].[subsecond]"; lacks = YearAndOffset } ∷
    record { name = codes "logcat"; language = codes "v3"; description = codes "[month]-[day] [hour]:[minute]:[second].[subsecond]"; lacks = YearAndOffset } ∷
    record { name = codes "snort"; language = codes "v3"; description = codes "[month]/[day]-[hour]:[minute]:[second].[subsecond]"; lacks = YearAndOffset } ∷
    record { name = codes "syslog-fraction"; language = codes "v3"; description = codes "[month repr:short] [day padding:space] [hour]:[minute]:[second].[subsecond]"; lacks = YearAndOffset } ∷
    record { name = codes "syslog"; language = codes "strftime"; description = codes "%b %e %T"; lacks = YearAndOffset } ∷
    record { name = codes "spark"; language = codes "strftime"; description = codes "%y/%m/%d %T"; lacks = YearAndOffset } ∷
    record { name = codes "dmy-short"; language = codes "strftime"; description = codes "%d/%m/%y %T"; lacks = YearAndOffset } ∷
    record { name = codes "ledger"; language = codes "strftime"; description = codes "%Y/%m/%d"; lacks = TimeAndOffset } ∷
    record { name = codes "date"; language = codes "strftime"; description = codes "%F"; lacks = TimeAndOffset } ∷
    []
